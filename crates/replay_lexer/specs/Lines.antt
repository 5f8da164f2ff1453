-- A text in pieces: what stands before the first of a given byte, and what stands behind it.
use Rattle.std.specs.Prelude.{List, ℕ, ◌+◌, ◌-◌, eqb, take, drop}
use Rattle.std.specs.List.{position_or_len, before_first, after_first}
use Rattle.text.specs.Decimal.{starting_with}

-- what stands before the first byte b; all where there is none
unfoldable pub until : ℕ → List ℕ → List ℕ
until b s = before_first (λ x. eqb x b) s

-- what stands behind the first byte b; nothing where there is none
unfoldable pub past : ℕ → List ℕ → List ℕ
past b s = after_first (λ x. eqb x b) s

-- the first place at or after `from` where b stands, or the end
unfoldable pub place_of : ℕ → List ℕ → ℕ → ℕ
place_of b s from = from + position_or_len (λ x. eqb x b) (drop from s)

-- the bytes from `from` up to `to` at the start; what stands behind them stays
unfoldable pub shifted : List ℕ → ℕ → ℕ → List ℕ
shifted s from to = starting_with (take (to - from) (drop from s)) s
