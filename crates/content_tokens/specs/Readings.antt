-- Laws of an answer and the reading that it stands for.
use Rattle.std.specs.Prelude.{ℕ, ◌≤◌, ◌≡◌, refl, Ok, List}
use Rattle.std.proofs.Common.{ap, ◌∙◌, arith}
use Rattle.rules.specs.Reading.{Reading, refused, got, and_then}
use Rattle.rules.specs.TypeFile.{Tokens}
use Rattle.rules.specs.Bytes.{GRPGTCNT}
use Rattle.text.specs.declared.Fault.{Fault}
use Rattle.connectors.specs.declared.Model.{Model}
use Rattle.connectors.specs.Kept.{Begun, Keeps}
use Rattle.content_tokens.specs.Meets.{Refuses, Meets}

-- A refusal, and one that is passed on from a part.
pub refuses : {A : Type 0} {f g : Fault} (x : Reading A) → f ≡ g → x ≡ refused g.number g.at → Refuses f x
refuses x p q = rw (p, q) (refl, refl)

pub refused_is : {A : Type 0} (f : Fault) (x : Reading A) → Refuses f x → x ≡ refused f.number f.at
refused_is f (refused n k) h = cc (h.0, h.1)
refused_is f (got x) h = absurd h

pub refuses_on : {A B : Type 0} (f : Fault) (x : Reading A) (g : A → Reading B) (y : Reading B) → Refuses f x → y ≡ and_then x g → Refuses f y
refuses_on f x g y h q = refuses y refl (q ∙ ap (λ (z : Reading _). and_then z g) (refused_is f x h))

module _ (end : ℕ) (B : Begun) (names table : List ℕ) (m : Model) (x : Reading Tokens) where
  pub got_meets : (t : Tokens) → x ≡ got t → Keeps end B 1 0 names table m t → Meets end B names table (Ok m) x
  got_meets t q h = rw q h

  pub read_got : Meets end B names table (Ok m) x → (t : Tokens) × (x ≡ got t) × Keeps end B 1 0 names table m t
  read_got = by_case x
    where
      by_case : (x : Reading Tokens) → Meets end B names table (Ok m) x → (t : Tokens) × (x ≡ got t) × Keeps end B 1 0 names table m t
      by_case (refused n k) h = absurd h
      by_case (got t) h = (t, refl, h)

  module _ (M : Meets end B names table (Ok m) x) where
    -- What was read lies within its bounds.
    pub read_in_lem : (m.at ≤ end) × (m.places ≤ m.tokens) × (m.tokens ≤ GRPGTCNT)
    read_in_lem = omega (arith, (read_got M).2)

    -- What was read goes on.
    pub read_then : (v : Model) (C : Begun) (table' : List ℕ) (g : Tokens → Tokens) (y : Reading Tokens) → y ≡ and_then x (λ t. got (g t))
        → ((t : Tokens) → Keeps end B 1 0 names table m t → Keeps end C 1 0 names table' v (g t)) → Meets end C names table' (Ok v) y
    read_then v C table' g y q h =
        let w = read_got M in
        let e : y ≡ got (g w.0) = q ∙ ap (λ (z : Reading Tokens). and_then z (λ t. got (g t))) w.1 in
        rw e (h w.0 w.2)
