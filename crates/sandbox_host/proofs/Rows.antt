-- A table of the code gives each number the text that the rows of its definition have.
use Rattle.std.proofs.Common.{◌≡◌, ℕ, Bool, true, false, List, [], ◌∷◌, refl, ap, ◌∙◌, map, cond, Option, Some}
use Rattle.std.specs.Prelude.{◌==◌}
use Rattle.std.specs.Option.{option_map_or}
use Rattle.meanings.specs.declared.tables.Meaning.{Meaning}
use Rattle.meanings.specs.Tables.{Text, text_at, text_in}

-- the numbers and the texts of a table
abbrev pub rows_of : List Meaning → List (ℕ × Text)
rows_of table = map (λ row. (row.number, row.text.now)) table

first : (b : Bool) (row : Meaning) (found : Option Meaning) (other : Option (ℕ × Text))
    → option_map_or (λ (m : Meaning). m.text.now) found [] ≡ option_map_or (λ (m : ℕ × Text). m.1) other []
    → option_map_or (λ (m : Meaning). m.text.now) (cond b (Some row) found) [] ≡ option_map_or (λ (m : ℕ × Text). m.1) (cond b (Some (row.number, row.text.now)) other) []
first true row found other is = refl
first false row found other is = is

pub text_of_rows : (table : List Meaning) (number : ℕ) → text_in table number ≡ text_at (rows_of table) number
unfolding text_in
text_of_rows [] number = refl
text_of_rows (row ∷ table) number = first (row.number == number) row _ _ (text_of_rows table number)

-- so what the table gives is what the definition says, where its rows are those
pub text_of_table : (table : List Meaning) (rows : List (ℕ × Text)) (number : ℕ) (text : Text) → text ≡ text_in table number → rows_of table ≡ rows → text ≡ text_at rows number
text_of_table table rows number text is same = is ∙ text_of_rows table number ∙ ap (λ (r : List (ℕ × Text)). text_at r number) same
