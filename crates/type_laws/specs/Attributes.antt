-- The attributes of a type file that was read: at most ATTCNT in a list, with names that stand in the file and are no longer than `long` bytes.
use Rattle.std.specs.Prelude.{ℕ, ◌+◌, ◌*◌, ◌≤◌, ◌≡◌, length}
use Rattle.std.proofs.Common.{inl, inr, length-append}
use mathlib.Core.List.{List, [], ◌∷◌, ◌++◌}
use native.Mathlib.Omega.{arith}
use Rattle.rules.specs.Bytes.{ATTCNT}
use Rattle.rules.specs.Reading.{got}
use Rattle.rules.specs.Attributes.{Attribute}
use Rattle.rules.specs.TypeFile.{Element, type_file}
use Rattle.rules.specs.Listing.{attribute_count}
use Rattle.rules_laws.specs.Holds.{got_so}
use Rattle.rules_laws.specs.In.{all_snoc}
use Rattle.rules_laws.specs.Definitions.{Defines, list_holds}
use Rattle.rules_laws.specs.Declarations.{ListedIn}
use Rattle.rules_laws.specs.Within.{All, none, more, type_file_lists}

pub record AttributeIn (long : ℕ) (s : List ℕ) (a : Attribute) : Type 0 where
  pub short : a.size ≤ long
  pub inside : a.at + a.size ≤ length s

pub record AttributesIn (long : ℕ) (s : List ℕ) (xs : List Attribute) : Type 0 where
  pub few : length xs ≤ ATTCNT
  pub each : All (AttributeIn long s) xs

module _ (long : ℕ) (s : List ℕ) where
  attributes_none : AttributesIn long s []
  attributes_none = record { few = omega arith; each = none }

  attributes_more : (xs : List Attribute) (a : Attribute) → AttributesIn long s xs → Defines long s xs a → AttributesIn long s (xs ++ a ∷ [])
  attributes_more xs a x d = record { few = omega (arith, length-append xs (a ∷ []), d.room); each = all_snoc x.each (record { short = d.short; inside = d.name.ends }) }

  listed_in : (xs : List Attribute) → ListedIn long s xs → AttributesIn long s xs
  listed_in xs (inl e) = rw e attributes_none
  listed_in xs (inr r) = (got_so (list_holds long s (AttributesIn long s) attributes_more r.from r.inside attributes_none) r.read).each

  pub type_file_attributes : (es : List Element) → type_file long s ≡ got es → All (λ (e : Element). AttributesIn long s e.attributes) es
  type_file_attributes es e = go es (type_file_lists long s es e)
    where
      go : (ds : List Element) → All (λ (d : Element). ListedIn long s d.attributes) ds → All (λ (d : Element). AttributesIn long s d.attributes) ds
      go [] none = none
      go (d ∷ ds) (more p a) = more (listed_in d.attributes p) (go ds a)

  -- All of them are ATTCNT for each element at most.
  pub attributes_count : (es : List Element) → All (λ (e : Element). AttributesIn long s e.attributes) es → attribute_count es ≤ ATTCNT * length es
  unfolding attribute_count
  attributes_count [] none = omega arith
  attributes_count (e ∷ es) (more p a) = omega (arith, p.few, attributes_count es a)
