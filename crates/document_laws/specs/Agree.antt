-- Two decisions that mean the walks agree wherever the places taken begin a walk.
use Rattle.std.specs.Prelude.{ℕ, zero, suc, ◌≡◌, refl, Bool, true, false, ◌↔◌, List}
use Rattle.std.proofs.Common.{sym, arith}
use Rattle.rules.specs.Walk.{Group, Begins}
use Rattle.rules.specs.TypeFile.{Place, model, Element}
use Rattle.rules.specs.Elements.{content_of}
use Rattle.rules.specs.Decisions.{Token, IsThe, Decisions, Means}

-- There is one such number.
pub the_one : {P : ℕ → Type 0} (n m : ℕ) → IsThe P n → IsThe P m → n ≡ m
the_one zero zero x y = refl
the_one zero (suc m) x y = x.only (suc m) (y.some (omega arith))
the_one (suc n) m x y = sym (y.only (suc n) (x.some (omega arith)))

test_one : {A : Type 0} (a b : Bool) → (a ≡ true) ↔ A → (b ≡ true) ↔ A → a ≡ b
test_one true b x y = sym (y.1 (x.0 refl))
test_one false true x y = x.1 (y.0 refl)
test_one false false x y = refl

-- D and E answer alike about the element number k with these places taken.
pub record Alike (D E : Decisions) (k : ℕ) (taken : List ℕ) : Type 0 where
  pub fits : (t : Token) → D.fits k taken t ≡ E.fits k taken t
  pub complete : D.complete k taken ≡ E.complete k taken
  pub required : D.required k taken ≡ E.required k taken

pub agree : (s : List ℕ) (es : List Element) (D E : Decisions) → Means s es D → Means s es E → (k : ℕ) {g : Group} {ps : List Place} {n : ℕ} → content_of es k ≡ model g ps n → (taken : List ℕ) → Begins g taken → Alike D E k taken
agree s es D E x y k c taken b =
    record {
      fits = λ t. the_one (D.fits k taken t) (E.fits k taken t) ((x.walks k c taken b).fits t) ((y.walks k c taken b).fits t);
      complete = test_one (D.complete k taken) (E.complete k taken) (x.walks k c taken b).complete (y.walks k c taken b).complete;
      required = the_one (D.required k taken) (E.required k taken) (x.walks k c taken b).required (y.walks k c taken b).required;
    }
