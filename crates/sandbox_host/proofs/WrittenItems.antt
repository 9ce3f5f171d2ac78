-- Items that are written one after another.
use Rattle.std.proofs.Common.{◌≡◌, ◌+◌, ◌<◌, [], ◌∷◌, ◌++◌, ℕ, List, length, take, drop, set, get_or, arith, ap, sym, ◌∙◌}
use Rattle.std.proofs.lemmas.Grind.{common_steps}
use Rattle.std.proofs.lemmas.List.{set_at, take_more, drop_more}

-- one item more
one_more : {X : Type 0} (items before : List X) (n : ℕ) (d : X) → n < length items → n < length before
    → set (take n items ++ drop n before) n (get_or items n d) ≡ take (n + 1) items ++ drop (n + 1) before
one_more {X} items before n d there place =
    let first : List X = take n items in
    let rest : List X = drop (n + 1) before in
    let item : X = get_or items n d in
    let long : length first ≡ n = grind (arith, common_steps) in
    let joined : first ++ (item ∷ rest) ≡ (first ++ (item ∷ [])) ++ rest = grind (arith, common_steps) in
    ap (λ r. set (first ++ r) n item) (drop_more before n d place) ∙ set_at first (get_or before n d) rest item n long ∙ joined
    ∙ ap (λ q. q ++ rest) (sym (take_more items n d there))

-- the room after one item more
pub written_more : {X : Type 0} (items before room : List X) (n : ℕ) (d item : X) → n < length items → n < length before
    → room ≡ take n items ++ drop n before → item ≡ get_or items n d → set room n item ≡ take (n + 1) items ++ drop (n + 1) before
written_more items before room n d item there place is same = ap (λ r. set r n item) is ∙ ap (λ x. set (take n items ++ drop n before) n x) same ∙ one_more items before n d there place
