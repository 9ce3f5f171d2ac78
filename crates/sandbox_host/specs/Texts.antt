-- The texts of numbers, as the register has them (`meanings`): of an answer, of a trap, of an errno. What only the library answers, past
-- 100, stands here.
use Rattle.std.specs.Prelude.{ℕ, nat_lt, ◌==◌, List, [], ◌∷◌, codes, if◌then◌else◌}
use Rattle.meanings.specs.Tables.{Text, errno_text, fault_text, text_at, trap_text}

-- what a host of frames and of instances got wrong (`include/sandbox.h`, `include/sandbox_plugin.h`)
unfoldable pub mistakes : List (ℕ × Text)
mistakes = (101, codes "not so many functions are at work")
    ∷ (102, codes "nothing runs: a function has to be called first")
    ∷ (103, codes "a function is at work")
    ∷ (104, codes "a function of the host was called: it has to be answered first")
    ∷ (105, codes "no function of the host was called")
    ∷ (106, codes "the call has trapped or was refused memory: it has to be abandoned first")
    ∷ (107, codes "nothing can be called any more: a function called proc_exit, or the opening did not return")
    ∷ (108, codes "the module exports no function of its own by this name, or one of more than 16 parameters")
    ∷ (109, codes "another number of values, or one that is not of its type")
    ∷ (110, codes "past the end of memory")
    ∷ (111, codes "no more input is taken: its end was told, or all of it was there at the opening")
    ∷ []

unfoldable pub mistake_text : ℕ → Text
mistake_text number = text_at mistakes number

-- the text of an answer
abbrev pub answer_text : ℕ → Text
answer_text number = if nat_lt 100 number then mistake_text number else fault_text number

abbrev pub text_of : ℕ → ℕ → Text
text_of kind number =
    if kind == 0 then answer_text number else (if kind == 1 then trap_text number else (if kind == 2 then errno_text number else []))
