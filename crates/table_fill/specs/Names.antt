-- The names of a model's places, looked up in an indexed type, and the places filed by them.
use Rattle.std.specs.Prelude.{ℕ, ◌+◌, ◌-◌, ◌*◌, ◌≤◌, ◌<◌, ◌≡◌, cond, List, length, get_or, eqb}
use Rattle.std.proofs.Common.{arith, ne_eqb}
use Rattle.rules.specs.Settings.{most_name_length}
use Rattle.rules.specs.TypeFile.{Place, Element}
use Rattle.rules.specs.Elements.{number_of}
use Rattle.rules.specs.Bytes.{GRPGTCNT, element_limit}
use Rattle.layout.specs.Sizes.{PLACES, FACT, FACTS, PCDATA, START_OMITTED}
use Rattle.model_names.specs.Places.{place_in, places_of}
use Rattle.model_names.specs.Shared.{place_at_places_of}
use Rattle.element_index.specs.Indexed.{Indexed}
use Rattle.type_tables.specs.Tables.{named_by}
use Rattle.table_fill.specs.Places.{slot_of, PlacePut, PlacesPut, places_more}

-- What a place names: an element, `PCDATA`, 0 if that is not declared.
abbrev pub name_of : List ℕ → List Element → Place → ℕ
name_of s es x = cond (eqb x.size 0) PCDATA (number_of s es s x.at x.size)

pub name_some : (s : List ℕ) (es : List Element) (x : Place) (size at v : ℕ) → size ≡ x.size → at ≡ x.at → (size ≡ 0 → ⊥) → v ≡ number_of s es s at size → v ≡ name_of s es x
name_some s es x size at v p q z n = rw (← p, ← q, ne_eqb size 0 z) n

-- The number of an element, or 0, fits, and so does the number by which it is filed.
pub name_fits : (v : ℕ) → v ≤ element_limit → (v ≤ 255) × (slot_of v ≤ element_limit)
name_fits v l = (omega arith, rw (ne_eqb v PCDATA (λ e. omega arith)) l)

-- A name of as many bytes as any settings allow at most, within the type file; `#PCDATA` has the size 0.
abbrev pub IsName : List ℕ → Place → Type 0
IsName s x = (x.size ≤ most_name_length) × (x.at + x.size ≤ length s)

-- So are those of the first n places.
abbrev pub NamesFit : (s names : List ℕ) → ℕ → Type 0
NamesFit s names n = (p : ℕ) → 1 ≤ p → p ≤ n → IsName s (place_in names (p - 1))

-- What is asked for the n places of the element e to be filed: their names are such, and no place of e is filed yet.
pub record PlacesDue (s names places facts : List ℕ) (e n : ℕ) : Type 0 where
  pub element : e ≤ element_limit
  pub few : n ≤ GRPGTCNT
  pub fit : NamesFit s names n
  pub places_len : length places ≡ PLACES
  pub facts_len : length facts ≡ FACTS
  pub blank : (k : ℕ) → e * FACT ≤ k → k < e * FACT + START_OMITTED → get_or facts k 0 ≡ 0

-- A turn of the loop that files them, in an indexed type.
module _ (s : List ℕ) (es : List Element) (elements index names P F : List ℕ) (indexed : Indexed s es elements index) (e n : ℕ) (due : PlacesDue s names P F e n)
    (p v : ℕ) (from : 1 ≤ p) (to : p ≤ n) (is : v ≡ name_of s es (place_in names (p - 1))) where
  names_it : v ≡ named_by s es (places_of names n) p
  names_it = rw (place_at_places_of names n (p - 1) (omega arith)) is

  pub place_filed : (Q G R H : List ℕ) → PlacesPut s es (places_of names n) e P F Q G p → PlacePut e p v Q G R H → PlacesPut s es (places_of names n) e P F R H (p + 1)
  place_filed Q G R H h w =
      let few = due.few in
      places_more indexed.settings.name_length s es indexed.accepted.elements (places_of names n) e P F Q G p from (omega arith) h v names_it R H w
