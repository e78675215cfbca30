-- Every reading of the type file stays within the input: a refusal has one of its numbers and stands in it, and so does what is read.
use Rattle.std.specs.Prelude.{ℕ, ◌≤◌, ◌≡◌, List, [], ◌∷◌, ◌++◌, length}
use Rattle.std.proofs.Common.{arith, length-append}
use Rattle.rules.specs.Bytes.{element_limit}
use Rattle.rules.specs.Reading.{refused, got}
use Rattle.rules.specs.TypeFile.{Element, type_file}
use Rattle.rules_laws.specs.Holds.{Holds, refused_so, got_so}
use Rattle.rules_laws.specs.Groups.{content_read_lem, whatever_builds}
use Rattle.rules_laws.specs.Definitions.{IsFileNumber, InFile}
use Rattle.rules_laws.specs.Declarations.{Declares, ListedIn, bares, bares_length, type_file_holds}
use Rattle.rules_laws.specs.In.{all_snoc}
pub use Rattle.rules_laws.specs.In.{All, none, more, all_mem, PlaceIn, place_at_in, Fits, ContentIn, NameIn, ElementIn, ElementsIn}

-- What is asked of elements here does not ask their attributes.
elements_whole : {s : List ℕ} (es : List Element) → ElementsIn s (bares es) → ElementsIn s es
unfolding bares
elements_whole {s} es x = record { few = omega (arith, bares_length es, x.few); each = go es x.each }
  where
    go : (ds : List Element) → All (ElementIn s) (bares ds) → All (ElementIn s) ds
    go [] none = none
    go (d ∷ ds) (more p a) = more (record { name = p.name; start = p.start; end = p.end; content = p.content }) (go ds a)

module _ (long : ℕ) (s : List ℕ) where
  -- An element that was declared stands in the input.
  pub declared_in : {es : List Element} {e : Element} → Declares long s es e → ElementIn s e
  declared_in d = record { name = d.name; start = d.start; end = d.end; content = (got_so (content_read_lem long s whatever_builds d.before d.begun) d.content_read).content }

  elements_more : (es : List Element) (e : Element) → ElementsIn s es → Declares long s es e → ElementsIn s (es ++ e ∷ [])
  elements_more es e x d = record { few = omega (arith, length-append es (e ∷ []), d.room); each = all_snoc x.each (declared_in d) }

  type_file_reads : Holds (InFile s) (λ (es : List Element). (1 ≤ length es) × ElementsIn s (bares es) × All (λ (e : Element). ListedIn long s e.attributes) es) (type_file long s)
  type_file_reads = type_file_holds long s (ElementsIn s) elements_more (record { few = omega arith; each = none })

  -- A refusal of the type file is one of 3 to 8, 10, 20 and 22, and stands in it.
  pub type_file_within : (n k : ℕ) → type_file long s ≡ refused n k → IsFileNumber n × (k ≤ length s)
  type_file_within n k e = refused_so type_file_reads e

  -- What is read of it: 1 to 64 elements, each as `ElementIn` says.
  pub type_file_elements : (es : List Element) → type_file long s ≡ got es → (1 ≤ length es) × ElementsIn s es
  type_file_elements es e = let r = got_so type_file_reads e in (r.0, elements_whole es r.1)

  pub type_file_count : (es : List Element) → type_file long s ≡ got es → (1 ≤ length es) × (length es ≤ element_limit)
  type_file_count es e = omega (arith, type_file_elements es e)

  -- The attributes of each of them were read as its list, or it has none.
  pub type_file_lists : (es : List Element) → type_file long s ≡ got es → All (λ (e : Element). ListedIn long s e.attributes) es
  type_file_lists es e = (got_so type_file_reads e).2
