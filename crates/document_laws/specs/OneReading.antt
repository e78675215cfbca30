-- A page to read: under an accepted type every document has one reading, and it is computed.
use Rattle.std.specs.Prelude.{◌≡◌, refl, ℕ, List, []}
use Rattle.std.proofs.Common.{sym, ◌∙◌, ap, subst}
use Rattle.rules.specs.Settings.{Settings}
use Rattle.rules.specs.Reading.{Reading, refused, got}
use Rattle.rules.specs.TypeFile.{Element, type_file}
use Rattle.rules.specs.Judge.{Accepts}
use Rattle.rules.specs.Decisions.{Decisions, Means}
use Rattle.rules.specs.Events.{Event}
use Rattle.rules.specs.Reader.{document, BothLegible, Reads}
use Rattle.document_laws.specs.Decide.{decided, decided_means}
use Rattle.document_laws.specs.Numbers.{type_file_numbered, type_file_guarded}
use Rattle.document_laws.specs.Same.{document_one}

-- Under an accepted type the walks can be decided, by the last place taken in each open element.
pub accepted_decided : {c : Settings} (s : List ℕ) (es : List Element) → Accepts c s es → Means s es (decided s es)
accepted_decided {c} s es a = decided_means s es (type_file_numbered c.name_length s es a.elements) (type_file_guarded c.name_length s es a.elements a.unrepeated) a.unambiguous

-- So the document has a reading.
pub reads_some : {c : Settings} (s d : List ℕ) (es : List Element) → BothLegible c s d → Accepts c s es → Reads c s d es (document c s es (decided s es) d)
reads_some s d es l a = record { legible = l; accepted = a; decisions = decided s es; means = accepted_decided s es a; reading = refl }

elements : Reading (List Element) → List Element
elements (refused n k) = []
elements (got es) = es

pub same_elements : (c : Settings) (s : List ℕ) (es fs : List Element) → type_file c.name_length s ≡ got es → type_file c.name_length s ≡ got fs → es ≡ fs
unfolding elements
same_elements c s es fs e f = ap elements (sym e ∙ f)

-- It has no other: all decisions that mean the walks read it alike.
pub reads_one : {c : Settings} (s d : List ℕ) (es fs : List Element) (r q : Reading (List Event)) → Reads c s d es r → Reads c s d fs q → (es ≡ fs) × (r ≡ q)
reads_one {c} s d es fs r q x y =
    let e = same_elements c s es fs x.accepted.elements y.accepted.elements in
    let z : Reads c s d es q = subst (λ (gs : List Element). Reads c s d gs q) (sym e) y in
    (e, sym x.reading ∙ document_one s es x.decisions z.decisions x.means z.means c d ∙ z.reading)

-- Any one decision that means the walks gives the reading.
pub reads_any : {c : Settings} (s d : List ℕ) (es : List Element) (r : Reading (List Event)) → Reads c s d es r → (D : Decisions) → Means s es D → document c s es D d ≡ r
reads_any {c} s d es r x D m = document_one s es D x.decisions m x.means c d ∙ x.reading
