-- The places of every model that is read are numbered from 1, left to right; and where no "&" is refused, none stands under "+".
use Rattle.std.specs.Prelude.{ℕ, suc, ◌+◌, ◌≡◌, refl, true, false, List, [], ◌∷◌, ◌++◌, length, eqb}
use Rattle.std.proofs.Common.{◌∙◌, ap, subst, arith, length-append, eqb-true, eq-eqb}
use Rattle.rules.specs.Reading.{got}
use Rattle.rules.specs.Walk.{Group}
use Rattle.rules.specs.TypeFile.{Place, Content, empty, model, Element, type_file}
use Rattle.rules_laws.specs.Holds.{got_so}
use Rattle.rules_laws.specs.Groups.{Builds, Built, GuardedIn, whatever_builds, content_read_lem}
use Rattle.rules_laws.specs.Declarations.{Declares, bares, type_file_holds}
use Rattle.model_sets.specs.Sets.{size, Numbered}
use Rattle.rules.specs.Judge.{first_repeated}
use Rattle.basic_laws.specs.Truth.{bool_cases, not_both}
use Rattle.document_laws.specs.Decide.{NumberedIn, AllNumbered, AllGuarded}

-- The group g has the places behind ps, and qs are the places with them.
pub record Counted (ps : List Place) (g : Group) (qs : List Place) : Type 0 where
  pub numbered : Numbered g (suc (length ps))
  pub counted : length qs ≡ length ps + size g

-- A further token, behind the places of those before it.
module _ {ps qs rs : List Place} {g h : Group} (c : Counted ps g qs) (d : Counted qs h rs) where
  behind : Numbered h (suc (length ps) + size g)
  behind = let from : suc (length qs) ≡ suc (length ps) + size g = omega (arith, c.counted) in subst (Numbered h) from d.numbered

  total : length rs ≡ length ps + (size g + size h)
  total = omega (arith, c.counted, d.counted)

pub counted_builds : {long : ℕ} → Builds long Counted
counted_builds =
    record {
      name = λ ps x l m. record { numbered = refl; counted = length-append ps (x ∷ []) };
      pcdata = λ ps x e. record { numbered = refl; counted = length-append ps (x ∷ []) };
      optional = λ c. record { numbered = c.numbered; counted = c.counted };
      repeated = λ c. record { numbered = c.numbered; counted = c.counted };
      sequence = λ c d. record { numbered = (c.numbered, behind c d); counted = total c d };
      choice = λ c d. record { numbered = (c.numbered, behind c d); counted = total c d };
      any_order = λ c d. record { numbered = (c.numbered, behind c d); counted = total c d };
      another = λ c d. record { numbered = (c.numbered, behind c d); counted = total c d };
    }

content_numbered : (c : Content) → Built Counted c → NumberedIn c
content_numbered empty x = tt
content_numbered (model g ps n) x = x.numbered

numbered_more : (es : List Element) (e : Element) → AllNumbered es → NumberedIn e.content → AllNumbered (es ++ e ∷ [])
numbered_more [] e a n = (n, tt)
numbered_more (x ∷ es) e a n = (a.0, numbered_more es e a.1 n)

-- Attributes have no part in it.
numbered_whole : (es : List Element) → AllNumbered (bares es) → AllNumbered es
unfolding bares
numbered_whole [] a = tt
numbered_whole (e ∷ es) a = (a.0, numbered_whole es a.1)

module _ (long : ℕ) (s : List ℕ) where
  declared_more : (es : List Element) (e : Element) → AllNumbered es → Declares long s es e → AllNumbered (es ++ e ∷ [])
  declared_more es e a d = numbered_more es e a (content_numbered e.content (got_so (content_read_lem long s counted_builds d.before d.begun) d.content_read).built)

  pub type_file_numbered : (es : List Element) → type_file long s ≡ got es → AllNumbered es
  type_file_numbered es e = numbered_whole es (got_so (type_file_holds long s AllNumbered declared_more tt) e).1

-- No "&" is refused among these and one more exactly if none is in either.
repeated_more : (es : List Element) (e : Element) → first_repeated (es ++ e ∷ []) ≡ 0 → (first_repeated es ≡ 0) × (e.repeated ≡ 0)
unfolding first_repeated
repeated_more [] e x = (refl, bool_cases (eqb e.repeated 0) (λ y. eqb-true e.repeated 0 y) (λ y. rw (y, first_repeated) at x))
repeated_more (k ∷ es) e x =
    bool_cases
    (eqb k.repeated 0)
    (λ y. let (a, b) = repeated_more es e (rw (y, first_repeated) at x) in (rw (y, first_repeated) a, b))
    (λ y. absurd (not_both y (eq-eqb k.repeated 0 (rw (y, first_repeated) at x))))

guarded_more : (es : List Element) (e : Element) → AllGuarded es → GuardedIn e.content → AllGuarded (es ++ e ∷ [])
guarded_more [] e a g = (g, tt)
guarded_more (x ∷ es) e a g = (a.0, guarded_more es e a.1 g)

guarded_whole : (es : List Element) → AllGuarded (bares es) → AllGuarded es
unfolding bares
guarded_whole [] a = tt
guarded_whole (e ∷ es) a = (a.0, guarded_whole es a.1)

pub repeated_whole : (es : List Element) → first_repeated (bares es) ≡ first_repeated es
unfolding bares first_repeated
repeated_whole [] = refl
repeated_whole (e ∷ es) = ap (λ (n : ℕ). elim (eqb e.repeated 0) [ true ↦ n | false ↦ e.repeated ]) (repeated_whole es)

abbrev Unrefused : List Element → Type 0
Unrefused es = first_repeated es ≡ 0 → AllGuarded es

module _ (long : ℕ) (s : List ℕ) where
  unrefused_more : (es : List Element) (e : Element) → Unrefused es → Declares long s es e → Unrefused (es ++ e ∷ [])
  unrefused_more es e a d x =
      let (y, z) = repeated_more es e x in
      guarded_more es e (a y) ((got_so (content_read_lem long s whatever_builds d.before d.begun) d.content_read).guarded z)

  pub type_file_guarded : (es : List Element) → type_file long s ≡ got es → first_repeated es ≡ 0 → AllGuarded es
  type_file_guarded es e x = guarded_whole es ((got_so (type_file_holds long s Unrefused unrefused_more (λ x. tt)) e).1 (repeated_whole es ∙ x))
