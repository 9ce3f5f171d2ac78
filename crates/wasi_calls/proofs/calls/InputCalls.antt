-- Calls that read from the input.
use Rattle.std.proofs.Common.{◌≡◌, ◌⊎◌, inl, inr, Result, OnOk, OnErr, IfErr, ℕ, ◌+◌, ◌≤◌, Bool, true, false, not, cond, ◌||◌, nat_lt, is_some, List, [], ◌∷◌, ◌++◌, length, take, drop, Option, Some, None, Ok, Err, vec_capacity, refl, sym, ap, ◌∙◌, subst, append-nil, arith}
use Rattle.std.proofs.lemmas.Bool.{false≢true}
use Rattle.std.proofs.lemmas.List.{length-append, length-take, length-drop, take_all, drop_all}
use Rattle.std.proofs.Math.Seq.{take-append_seam, drop-append_seam}
use Rattle.std.specs.Io.KnownBytes.{Consumes, IsAtEnd}
use Rattle.std.proofs.KnownBytes.{Appends-nil}
use Rattle.byteorder.specs.Endian.{little_bytes}
use Rattle.wasm_store.specs.Bytes.{written}
use Rattle.wasm_store.specs.declared.call.Errno.{Errno}
use Rattle.vol_sector.specs.Disk.{Disk}
use Rattle.vol_tree.specs.Opened.{IsSerial}
use Rattle.wasi_fd.specs.declared.descriptor.Stream.TheVariants.{Input}
use Rattle.wasi_fd.specs.declared.descriptor.Descriptor.TheVariants.{Stream, Entry}
use Rattle.wasi_fd.specs.declared.descriptor.Opened.{Opened as OpenedEntry}
use Rattle.wasi_fd.specs.Table.{table_of}
use Rattle.wasi_calls.specs.declared.host.inner.Inner.{Inner}
use Rattle.wasi_bodies.specs.host.Settings.{settings_fit}
use Rattle.wasi_bodies.specs.World.{World, unread, reads_short, most_read, least_read, pieces_after, with_stream_failed}
use Rattle.wasi_bodies.specs.Checks.{Checked, Done, Buffer, put, total, scattered}
use Rattle.wasm_store.specs.declared.call.HostCall.{HostCall}
use Rattle.wasi_bodies.specs.Calls.{row, Answered, by_row, input_fails, input_left, filled}
use Rattle.wasi_bodies.specs.host.Worlds.{HostState, StreamBytes, HasFailed, LeavesNone, StreamsMove, before_moving, after_moving, world_of, VolumeStep, Hearing, HearsInput, HearsStreams}
use Rattle.wasi_bodies.specs.internal.Entries.{errno_of}
use Rattle.wasi_calls.specs.internal.Bodies.{state_of, IsSetUp, Serves}
use Rattle.wasi_bodies.specs.internal.streams.Inputs.{Broke, IsRead, read_to}
use Rattle.wasi_bodies.proofs.checks.Chains.{guard_passes, guard_fails, goes_on, stops}
use Rattle.wasi_bodies.proofs.bodies.Answering.{answers_done, answers_refused}
use Rattle.wasi_bodies.proofs.bodies.Resting.{nothing, same_after, volume_rests, settings_rest}
use Rattle.wasi_calls.proofs.calls.PlainCalls.{from_in, after_in, streams_rest}
use Rattle.wasi_bodies.proofs.bodies.VolumeCalls.{is_no_err}
use Rattle.wasi_bodies.proofs.checks.CausesOf29.{no_29_at_0}
use Rattle.wasi_bodies.specs.declared.streams.Input.{Input as InputValue}
use Rattle.wasi_bodies.specs.declared.checks.buffers.TheConstants.{MOST_BUFFERS}
use Rattle.wasi_bodies.specs.declared.streams.inputs.TheConstants.{INPUT_PIECE}
use Rattle.wasi_bodies.proofs.streams.ReaderBytes.{ended_or, none_long}
use Rattle.wasi_bodies.proofs.streams.ShortReads.{piece_of, no_piece, later, reads_so_many, reads_no_more, reads_before_failure}
use Rattle.wasi_calls.proofs.bodies.StreamsHeard.{output_unheard}

-- ---- the bytes before a read and after it

leaves_none : (before after : Option (List ℕ)) (bytes : List ℕ) → Consumes before after bytes → IsAtEnd after → LeavesNone before after
leaves_none None after bytes consumed end = tt
leaves_none (Some xs) None bytes consumed end = absurd consumed
leaves_none (Some xs) (Some ys) bytes consumed end = ap Some end

-- this many are taken of them
record IsCut (had bytes left : List ℕ) (n : ℕ) : Type 0 where
  first : take n had ≡ bytes
  rest : drop n had ≡ left

cut_at : (had bytes left : List ℕ) → had ≡ bytes ++ left → IsCut had bytes left (length bytes)
cut_at had bytes left parts = record {
  first = ap (take (length bytes)) parts ∙ take-append_seam bytes left;
  rest = ap (drop (length bytes)) parts ∙ drop-append_seam bytes left;
}

cut_all : (had bytes left : List ℕ) (n : ℕ) → had ≡ bytes ++ left → length bytes ≤ n → (length bytes ≡ n) ⊎ (left ≡ []) → IsCut had bytes left n
cut_all had bytes left n parts few full = elim full [
  | inl is ↦ subst (IsCut had bytes left) is (cut_at had bytes left parts)
  | inr none ↦
      let same : had ≡ bytes = parts ∙ (ap (λ (l : List ℕ). bytes ++ l) none ∙ append-nil bytes) in
      record {
        first = ap (take n) same ∙ take_all n bytes few;
        rest = ap (drop n) same ∙ (drop_all n bytes few ∙ sym none);
      }
]

-- ---- the call

-- the bytes that are taken
abbrev taken_in : World → List Buffer → List ℕ
taken_in w bs = take (most_read (reads_short w) w.pieces (total bs)) (unread w)

abbrev world_in : World → List Buffer → World
world_in w bs = record w {
  input = drop (length (taken_in w bs)) w.input;
  pieces = pieces_after (reads_short w) w.pieces;
  input_ended = w.input_ended || nat_lt (length (taken_in w bs)) (least_read (reads_short w) (total bs));
}

abbrev done_in : World → List Buffer → ℕ → Done
done_in w bs result = record {
  world = world_in w bs;
  fills = scattered (taken_in w bs) bs;
  results = (result, little_bytes 4 (length (taken_in w bs))) ∷ [];
}

in_alive : (w : World) (fd : ℕ) (bs : List Buffer) (result : ℕ) → w.input_failed ≡ false → read_to w fd (Stream Input) bs result ≡ Ok (done_in w bs result)
in_alive w fd bs result alive =
    goes_on _ _ (world_in w bs, taken_in w bs) (goes_on _ _ tt (guard_passes _ 29 (ap not alive)))

-- what is unread before the end, and after it
unread_on : (w : World) → w.input_ended ≡ false → unread w ≡ w.input
unread_on w is = ap (λ (b : Bool). cond b [] w.input) is

unread_ended : (w : World) → w.input_ended ≡ true → unread w ≡ []
unread_ended w is = ap (λ (b : Bool). cond b [] w.input) is

module _ {D R W1 W2 : Type 0} (honest : D → Type 0) (disk : D → Disk) (sectors_on failures : D → ℕ) (device_goes_on : ℕ → D → D → Type 0)
    (remaining : R → Option (List ℕ)) (out_contents : W1 → Option (List ℕ)) (err_contents : W2 → Option (List ℕ)) (ear : Hearing R W1 W2)
    (c : HostCall) (used : ℕ) (args : List ℕ) (old new : Inner D R W1 W2) (m m' : List ℕ) (fd : ℕ) (bs : List Buffer) (result : ℕ)
    (h : IsSetUp remaining old) (buffers : MOST_BUFFERS ≤ vec_capacity new.buffers) (piece : INPUT_PIECE ≤ vec_capacity new.piece)
    (end : new.input.ended ≡ true → IsAtEnd (remaining new.input.reader))
    (state : state_of new ≡ state_of (record old { input = new.input }))
    (same : (v : World) → v.table ≡ table_of old.descriptors → row c v m used args ≡ read_to v fd (Stream Input) bs result)
    (cause : new.input.failed ≡ true → HasFailed c (state_of new)) (hears : HearsInput ear.input old.input new.input) where
  abbrev in_run : World → Checked Done
  in_run w = row c w m used args

  in_settings : new.settings ≡ record old.settings { random = new.settings.random }
  in_settings = settings_rest old.settings new.settings (ap (λ (s : HostState D R W1 W2). s.settings) state)

  in_set_up : IsSetUp remaining new
  in_set_up = record {
    settings = ap (λ (s : HostState D R W1 W2). settings_fit s.settings) state ∙ h.settings;
    buffers = buffers;
    piece = piece;
    ended = end;
    serials = subst (λ (s : HostState D R W1 W2). (fd : ℕ) (o : OpenedEntry) → table_of s.descriptors fd ≡ Some (Entry o) → IsSerial s.volume.numbers o.serial) (sym state) h.serials;
  }

  in_rests : VolumeStep honest disk sectors_on failures device_goes_on old.volume new.volume
  in_rests = subst (λ (s : HostState D R W1 W2). VolumeStep honest disk sectors_on failures device_goes_on old.volume s.volume) (sym state) (volume_rests honest disk sectors_on failures device_goes_on old.volume)

  in_heard : HearsStreams ear (state_of old) (state_of new)
  in_heard = subst (λ (t : HostState D R W1 W2). HearsStreams ear (state_of old) t) (sym state) (record { input = hears; out = output_unheard ear.out old.out; err = output_unheard ear.err old.err })

  in_moves : (bytes pieces : List ℕ) → Consumes (remaining old.input.reader) (remaining new.input.reader) bytes → (old.input.ended ≡ true → (bytes ≡ []) × (new.input.ended ≡ true))
      → (old.interactive ≡ None → pieces ≡ []) → StreamsMove remaining out_contents err_contents (state_of old) (state_of new) (from_in bytes pieces)
  in_moves bytes pieces consumed ended none =
      subst (λ (t : HostState D R W1 W2). StreamsMove remaining out_contents err_contents (state_of old) t (from_in bytes pieces)) (sym state)
      (record { input = consumed; output = Appends-nil (out_contents old.out.writer); errors = Appends-nil (err_contents old.err.writer); ended = ended; end = λ is. inr (leaves_none _ _ bytes consumed (end is)); pieces = λ is. (none is, is) })

  idle_in : old.input.failed ≡ true → new.input ≡ old.input → m' ≡ m → Serves honest disk sectors_on failures device_goes_on remaining out_contents err_contents ear c used args old m new m' 29
  idle_in failed none bytes =
      let still : state_of new ≡ state_of old = state ∙ λ i. state_of (record old { input = none i }) in
      record {
        set_up = in_set_up;
        row = λ _. (
          nothing,
          subst (λ (s : HostState D R W1 W2). StreamsMove remaining out_contents err_contents (state_of old) s nothing) (sym still)
              (streams_rest honest disk sectors_on failures device_goes_on remaining out_contents err_contents ear old old.volume old.descriptors old.settings old.generator),
          λ others end.
              let w = world_of (state_of old) others in
              by_row (answers_refused (in_run w) w m (world_of (state_of new) (after_moving nothing others)) m' 29
              (same w refl ∙ stops _ _ 29 (stops _ _ 29 (guard_fails _ 29 (ap not failed)))) (λ i. world_of (still i) (same_after others i)) bytes),
        );
        volume = in_rests;
        settings = in_settings;
        heard = in_heard;
        io = λ _. cause (ap (λ (i : InputValue R). i.failed) none ∙ failed);
      }

  abbrev short_in : Bool
  short_in = is_some old.interactive

  came_in : IsRead short_in remaining old.input new.input m bs result m' → Serves honest disk sectors_on failures device_goes_on remaining out_contents err_contents ear c used args old m new m' 0
  came_in r =
      let bytes : List ℕ = r.dealt.bytes in
      let none = λ (is : old.input.ended ≡ true). none_long bytes (omega (arith, r.dealt.many, r.none is)) in
      let stays = λ (is : old.input.ended ≡ true). r.ended ∙ ap (λ (x : Bool). x || nat_lt r.count (least_read short_in (total bs))) is in
      let few : length bytes ≤ total bs = omega (arith, r.dealt.many, r.dealt.few) in
      let piece : List ℕ = piece_of short_in (length bytes) in
      record {
        set_up = in_set_up;
        row = λ _. (
          from_in bytes piece,
          in_moves bytes piece r.dealt.consumed (λ is. (none is, stays is)) (λ is. no_piece short_in (length bytes) (ap is_some is)),
          λ others last.
              let b : StreamBytes = before_moving (from_in bytes piece) others in
              let most : ℕ = most_read short_in (piece ++ others.pieces) (total bs) in
              let w : World = world_of (state_of old) b in
              let had : List ℕ = bytes ++ others.input in
              let rest : drop (length bytes) had ≡ others.input = drop-append_seam bytes others.input in
              let first : taken_in w bs ≡ bytes = elim (ended_or old.input.ended) [
                | inl is ↦ ap (take most) (unread_ended w is) ∙ (take_all most [] (omega arith) ∙ sym (none is))
                | inr goes_on ↦
                    let cut : IsCut had bytes others.input most = cut_all had bytes others.input most refl (reads_no_more short_in (length bytes) (total bs) others.pieces few) (elim (ended_or new.input.ended) [
                      | inl is ↦ inr (last is)
                      | inr still ↦ inl (reads_so_many short_in (length bytes) (total bs) others.pieces few (subst (λ (n : ℕ). least_read short_in (total bs) ≤ n) (sym r.dealt.many) (r.full still)))
                    ]) in
                    ap (take most) (unread_on w goes_on) ∙ cut.first
              ] in
              let long : r.count ≡ length (taken_in w bs) = sym r.dealt.many ∙ ap length (sym first) in
              let left : others.input ≡ drop (length (taken_in w bs)) had = sym (ap (λ (l : List ℕ). drop (length l) had) first ∙ rest) in
              let marked : new.input.ended ≡ (old.input.ended || nat_lt (length (taken_in w bs)) (least_read short_in (total bs))) = r.ended ∙ ap (λ (n : ℕ). old.input.ended || nat_lt n (least_read short_in (total bs))) long in
              let next : others.pieces ≡ pieces_after short_in (piece ++ others.pieces) = later short_in (length bytes) others.pieces in
              subst (λ (x : StreamBytes). Answered in_run w m (world_of (state_of new) x) m' 0) (sym (after_in bytes piece others))
              (subst (λ (t : HostState D R W1 W2). Answered in_run w m (world_of t others) m' 0) (sym state)
              (by_row (answers_done (in_run w) w m (world_of (state_of (record old { input = new.input })) others) m' (done_in w bs result)
              (same w refl ∙ in_alive w fd bs result r.worked)
              (λ i. record w { input = left i; pieces = next i; input_ended = marked i; input_failed = (r.works ∙ sym r.worked) i })
              (r.stand ∙ ((λ i. written (r.dealt.stand i) result (little_bytes 4 (long i)))
              ∙ λ i. written (put m (scattered (sym first i) bs)) result (little_bytes 4 (length (taken_in w bs)))))))),
        );
        volume = in_rests;
        settings = in_settings;
        heard = in_heard;
        io = no_29_at_0;
      }

  broke_in : old.input.failed ≡ false → new.input.failed ≡ true → old.input.ended ≡ false → new.input.ended ≡ false
      → Broke short_in (remaining old.input.reader) (remaining new.input.reader) m bs m' → Serves honest disk sectors_on failures device_goes_on remaining out_contents err_contents ear c used args old m new m' 29
  broke_in before after goes_on still some =
      let dealt = some.some.dealt in
      let bytes : List ℕ = dealt.bytes in
      let few : length bytes ≤ total bs = omega (arith, dealt.many, dealt.few) in
      record {
        set_up = in_set_up;
        row = λ _. (
          from_in bytes [],
          in_moves bytes [] dealt.consumed (λ is. absurd (false≢true (sym goes_on ∙ is))) (λ is. refl),
          λ others last.
              let b : StreamBytes = before_moving (from_in bytes []) others in
              let most : ℕ = most_read short_in others.pieces (total bs) in
              let fewer : length bytes ≤ most = reads_before_failure short_in (length bytes) (total bs) others.pieces few (λ is. dealt.many ∙ some.none is) in
              let w : World = world_of (state_of old) b in
              let had : List ℕ = bytes ++ others.input in
              let cut = cut_at had bytes others.input refl in
              let is_row : in_run w ≡ Ok (done_in w bs result) = same w refl ∙ in_alive w fd bs result before in
              let cut_off : World = record w { input = take (length bytes) had } in
              let row_cut : in_run cut_off ≡ Ok (done_in cut_off bs result) = same cut_off refl ∙ in_alive cut_off fd bs result before in
              let all : taken_in cut_off bs ≡ bytes = ap (take most) (unread_on cut_off goes_on ∙ cut.first) ∙ take_all most bytes fewer in
              let taken : length (taken_in w bs) ≡ length (take most had) = ap (λ (l : List ℕ). length (take most l)) (unread_on w goes_on) in
              let long = length-append bytes others.input in
              let part = length-take most had in
              let rest = length-drop (length (taken_in w bs)) had in
              subst (λ (x : StreamBytes). Answered in_run w m (world_of (state_of new) x) m' 29) (sym (after_in bytes [] others))
              (subst (λ (t : HostState D R W1 W2). Answered in_run w m (world_of t others) m' 29) (sym state)
              (input_fails (record {
                reaches = record {
                  refused = same (with_stream_failed Input w) refl ∙ stops _ _ 29 (stops _ _ 29 (guard_fails _ 29 refl));
                  only_so = is_no_err (in_run w) (done_in w bs result) 29 is_row;
                };
                goes_on = goes_on;
                answer = refl;
                count = length bytes;
                no_more = subst (λ (x : Checked Done). length bytes + length (input_left x w) ≤ length had) (sym is_row) (omega (arith, fewer, long, taken, part, rest));
                after = λ i. record w { input = sym cut.rest i; input_ended = (still ∙ sym goes_on) i; input_failed = after i };
                bytes = dealt.stand ∙ ((λ i. put m (scattered (sym all i) bs)) ∙ ap (λ (x : Checked Done). filled x m) (sym row_cut));
              }))),
        );
        volume = in_rests;
        settings = in_settings;
        heard = in_heard;
        io = λ _. cause after;
      }

  pub served_in : (r : Result (Unit {0}) Errno) → (old.input.failed ≡ true → (new.input ≡ old.input) × (m' ≡ m)) → OnOk r (IsRead short_in remaining old.input new.input m bs result m')
      → OnErr r (old.input.failed ≡ false → (new.input.failed ≡ true) × (old.input.ended ≡ false) × (new.input.ended ≡ false) × Broke short_in (remaining old.input.reader) (remaining new.input.reader) m bs m')
      → IfErr r (λ e. e.0 ≡ 29) → Serves honest disk sectors_on failures device_goes_on remaining out_contents err_contents ear c used args old m new m' (errno_of r)
  served_in (Ok u) idle came broke answer = came_in came
  served_in (Err e) idle came broke answer =
      subst (λ (n : ℕ). Serves honest disk sectors_on failures device_goes_on remaining out_contents err_contents ear c used args old m new m' n) (sym answer)
      (elim (ended_or old.input.failed) [
        | inl is ↦ let none = idle is in idle_in is none.0 none.1
        | inr works ↦ let b = broke works in broke_in works b.0 b.1 b.2 b.3
      ])
