-- What a function that puts a text into a lent buffer promises.
use Rattle.std.specs.Prelude.{◌≡◌, List, ℕ, ◌≤◌, length}
use Rattle.text.specs.Decimal.{starting_with}

-- the text stands at the start of the buffer, what stood behind its r bytes stays, and r is at most `most`
pub record Written (text : List ℕ) (most : ℕ) (out : List ℕ) (r : ℕ) (after : List ℕ) : Type 0 where
  pub count : r ≡ length text
  pub few : r ≤ most
  pub buffer : after ≡ starting_with text out
