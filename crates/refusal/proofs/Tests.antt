-- Case splits on a test, tests of two parts, and what a chain of refusals tells that lets a call pass.
use mathlib.Core.Path.{◌≡◌, refl, sym}
use mathlib.Core.Bool.{Bool, true, false, cond, ◌&&◌, ◌||◌, true≢false}
use Rattle.std.specs.Prelude.{⊤, Result, Ok, Err}
use Rattle.refusal.specs.declared.Refusal.{Refusal}
use Rattle.refusal.specs.Refusal.{need, next}

pub cases {ℓ} : {P : Type ℓ} (b : Bool) → (b ≡ true → P) → (b ≡ false → P) → P
cases true f g = f refl
cases false f g = g refl

-- what holds of either holds of the one chosen
pub either : {A : Type 0} (P : A → Type 0) (b : Bool) {x y : A} → (b ≡ true → P x) → (b ≡ false → P y) → P (cond b x y)
either P true f g = f refl
either P false f g = g refl

pub never : {b : Bool} → b ≡ true → b ≡ false → ⊥
never p q = let e : true ≡ false = cc in true≢false e

pub and_left : (a b : Bool) → (a && b) ≡ true → a ≡ true
and_left true b e = refl
and_left false b e = e

pub and_right : (a b : Bool) → (a && b) ≡ true → b ≡ true
and_right true b e = e
and_right false b e = absurd (true≢false (sym e))

pub split : {a b : Bool} → (a && b) ≡ true → (a ≡ true) × (b ≡ true)
split {a = true} {b = b} e = (refl, e)
split {a = false} {b = b} e = (e, absurd (true≢false (sym e)))

pub both : (a b : Bool) → a ≡ true → b ≡ true → (a && b) ≡ true
both a b h i = rw (h, i)

pub and-false : (b : Bool) → (b && false) ≡ false
and-false true = refl
and-false false = refl

pub and-true : (b : Bool) → (b && true) ≡ b
and-true true = refl
and-true false = refl

pub or_left : (a b : Bool) → (a || b) ≡ false → a ≡ false
or_left true b e = e
or_left false b e = refl

pub or_right : (a b : Bool) → (a || b) ≡ false → b ≡ false
or_right true b e = absurd (never refl e)
or_right false b e = e

pub neither : (a b : Bool) → a ≡ false → b ≡ false → (a || b) ≡ false
neither a b h i = rw (h, i)

-- a chain that accepts: its first test holds, and so does the rest
pub need-first : {T E : Type 0} (b : Bool) (n : E) (a : Result T E) {x : T} → need b n a ≡ Ok x → b ≡ true
need-first true n a h = refl
need-first false n a h = cc

pub need-rest : {T E : Type 0} (b : Bool) (n : E) (a : Result T E) {x : T} → need b n a ≡ Ok x → a ≡ Ok x
need-rest true n a h = h
need-rest false n a h = cc

pub need-both : {T E : Type 0} {b : Bool} (n : E) {a : Result T E} {x : T} → need b n a ≡ Ok x → (b ≡ true) × (a ≡ Ok x)
need-both {b = b} n {a = a} h = (need-first b n a h, need-rest b n a h)

pub next-first : {T : Type 0} (a : Result ⊤ Refusal) (b : Result T Refusal) {x : T} → next a b ≡ Ok x → a ≡ Ok tt
next-first (Ok tt) b h = refl
next-first (Err n) b h = cc

pub next-rest : {T : Type 0} (a : Result ⊤ Refusal) (b : Result T Refusal) {x : T} → next a b ≡ Ok x → b ≡ Ok x
next-rest (Ok tt) b h = h
next-rest (Err n) b h = cc

pub next_both : {T : Type 0} {a : Result ⊤ Refusal} {b : Result T Refusal} {x : T} → next a b ≡ Ok x → (a ≡ Ok tt) × (b ≡ Ok x)
next_both {a = a} {b = b} h = (next-first a b h, next-rest a b h)
