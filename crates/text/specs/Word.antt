-- Words as they are written: a text's letters, each as its byte. Every text here is ASCII.
use Rattle.std.specs.Prelude.{List, [], ◌∷◌, ℕ}
use Prim.Native.Char.{code}
use Prim.Native.String.{String, [] as nothing, ◌∷◌ as ◌then◌}

abbrev pub letters : String → List ℕ
letters nothing = []
letters (c then s) = code c ∷ letters s
