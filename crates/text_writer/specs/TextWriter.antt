-- Texts that are put one behind another by a writer.
use Rattle.std.specs.Prelude.{◌≡◌, List, ◌++◌, ℕ, ◌+◌, ◌≤◌, length, take, drop}
use Rattle.text.specs.Decimal.{starting_with}
use Rattle.text_writer.specs.declared.TextWriter.{TextWriter}

-- no line that a program prints has more bytes
abbrev pub most_line : ℕ
most_line = 320

-- n bytes more fit
abbrev pub HasHeadroom : ℕ → TextWriter → Type 0
HasHeadroom n p = p.used + n ≤ length p.buffer.now

-- a buffer with a text from place `at` on; what stands before it and behind it stays
unfoldable pub behind : ℕ → List ℕ → List ℕ → List ℕ
behind at text out = take at out ++ starting_with text (drop at out)

-- the text, of at most `most` bytes, was put behind what the writer had put; it still writes into the same buffer
pub record Appended (text : List ℕ) (most : ℕ) (before after : TextWriter) : Type 0 where
  pub same_reference : after.buffer.ghost_name ≡ before.buffer.ghost_name
  pub same_length : length after.buffer.now ≡ length before.buffer.now
  pub used : after.used ≡ before.used + length text
  pub few : after.used ≤ before.used + most
  pub buffer : after.buffer.now ≡ behind before.used text before.buffer.now
