-- "`#PCDATA` counts as "*"": where a data byte was taken as a place, the next one fits as the same place.
use Rattle.std.specs.Prelude.{ℕ, ◌≤◌, ◌≡◌, refl, List, [], ◌∷◌, ◌++◌}
use Rattle.std.proofs.Common.{sym, ◌∙◌, subst, arith, eqb-true}
use Rattle.rules.specs.Settings.{Settings}
use Rattle.rules.specs.Walk.{Group, Begins}
use Rattle.rules.specs.TypeFile.{Place, model, Element}
use Rattle.rules.specs.Judge.{Accepts}
use Rattle.rules.specs.Elements.{content_of}
use Rattle.rules.specs.Decisions.{pcdata, Fits}
use Rattle.and_laws.specs.Sets.{has_next}
use Rattle.and_laws.specs.Numbers.{Guarded}
use Rattle.and_laws.specs.Begun.{next_itself}
use Rattle.rules_laws.specs.Groups.{GuardedIn}
use Rattle.document_laws.specs.Decide.{fits_in, decided, content_guarded}
use Rattle.document_laws.specs.Numbers.{type_file_guarded}
use Rattle.document_laws.specs.OneReading.{accepted_decided}
use Rattle.type_laws.specs.Models.{Whole, WholeIn}
use Rattle.type_laws.specs.Width.{type_file_whole}
use Rattle.type_laws.specs.Names.{pcdata_name}

module _ {c : Settings} (s : List ℕ) (es : List Element) (accepted : Accepts c s es) (k : ℕ) (g : Group) (ps : List Place) (n : ℕ) (is : content_of es k ≡ model g ps n) (whole : Whole g ps) (guarded : Guarded g) where
  -- A data byte that fits as p fits as p again.
  fits_again : (taken : List ℕ) (p : ℕ) → Fits s es g ps taken pcdata p → Fits s es g ps (taken ++ p ∷ []) pcdata p
  fits_again taken p x =
      record {
        name = x.name;
        next = next_itself g whole.numbered guarded taken p x.next (whole.repeats p (has_next g taken p x.next) (eqb-true _ 0 (sym (pcdata_name s es ps p) ∙ x.name)));
      }

  stays : (taken : List ℕ) → Begins g taken → (p : ℕ) → fits_in s es (model g ps n) taken pcdata ≡ p → 1 ≤ p → fits_in s es (model g ps n) (taken ++ p ∷ []) pcdata ≡ p
  stays taken b p e l =
      let M = accepted_decided s es accepted in
      let x : Fits s es g ps taken pcdata p = subst (Fits s es g ps taken pcdata) e ((rw is at ((M.walks k is taken b).fits pcdata).some) (omega arith)) in
      rw is at (((M.walks k is (taken ++ p ∷ []) x.next).fits pcdata).only p (fits_again taken p x))

-- Where the places taken begin a walk, and data fits as a place, data fits as that place once it is taken.
pub pcdata_stays : {c : Settings} (s : List ℕ) (es : List Element) → Accepts c s es → (k : ℕ) {g : Group} {ps : List Place} {n : ℕ} → content_of es k ≡ model g ps n → (taken : List ℕ) → Begins g taken → 1 ≤ (decided s es).fits k taken pcdata
    → (decided s es).fits k (taken ++ (decided s es).fits k taken pcdata ∷ []) pcdata ≡ (decided s es).fits k taken pcdata
pcdata_stays {c} s es a k {g} {ps} {n} is taken b h =
    rw is (stays s es a k g ps n is (subst WholeIn is (type_file_whole c.name_length s es a.elements k)) (subst GuardedIn is (content_guarded es (type_file_guarded c.name_length s es a.elements a.unrepeated) k)) taken b (fits_in s es (model g ps n) taken pcdata) refl (rw is at h))
