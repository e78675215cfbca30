-- Where an event of a document stands: among those that the acts note, or among the events of attributes, which come before a start.
use Rattle.std.proofs.Common.{ℕ, ◌+◌, ◌-◌, ◌≡◌, refl, sym, ◌∙◌, ap, ap₂, subst, append_assoc, Bool, true, false, ◌⊎◌, inl, inr, eqb, arith}
use mathlib.Core.List.{List, [], ◌∷◌, ◌++◌, Memᴰ}
use Rattle.rules.specs.Attributes.{Default, required, implied, literal, Attribute}
use Rattle.rules.specs.TypeFile.{Element}
use Rattle.rules.specs.Document.{Written, start_tag_at}
use Rattle.rules.specs.Elements.{element_at}
use Rattle.rules.specs.Events.{Event}
use Rattle.rules_laws.specs.In.{All, none, more, all_mem}
use Rattle.rules.specs.Given.{attribute_event, attribute_events, given_for, given_by, attributes_before, with_attributes}

-- Equal lists have equal first events and equal rests.
head_same : {x y : Event} {a b : List Event} → x ∷ a ≡ y ∷ b → x ≡ y
head_same i = cc

tail_same : {x y : Event} {a b : List Event} → x ∷ a ≡ y ∷ b → a ≡ b
tail_same i = cc

cons_some : {x : Event} {a : List Event} → [] ≡ x ∷ a → ⊥
cons_some i = let z : ◌≡◌ {A = ℕ} 0 1 = cc in omega arith

-- The events of attributes are of kinds 7 and 8, and have no place.
pub record OfAttribute (e : Event) : Type 0 where
  pub kind : (e.kind ≡ 7) ⊎ (e.kind ≡ 8)
  pub place : e.place ≡ 0

all_append : {P : Event → Type 0} {a b : List Event} → All P a → All P b → All P (a ++ b)
all_append none q = q
all_append (more p h) q = more p (all_append h q)

among : (before : List Event) (e : Event) (after : List Event) → Memᴰ e (before ++ e ∷ after)
among [] e after = Memᴰ.head refl
among (x ∷ before) e after = Memᴰ.tail (among before e after)

event_of : (n : ℕ) (f : Default) (ws : List Written) → All OfAttribute (attribute_event n f ws)
event_of n required [] = none
event_of n implied [] = none
event_of n (literal p) [] = more (record { kind = inr refl; place = refl }) none
event_of n required (w ∷ ws) = more (record { kind = inl refl; place = refl }) none
event_of n implied (w ∷ ws) = more (record { kind = inl refl; place = refl }) none
event_of n (literal p) (w ∷ ws) = more (record { kind = inl refl; place = refl }) none

events_of : (n : ℕ) (s : List ℕ) (xs : List Attribute) (d : List ℕ) (ws : List Written) → All OfAttribute (attribute_events n s xs d ws)
unfolding attribute_events
events_of n s [] d ws = none
events_of n s (a ∷ xs) d ws = all_append (event_of n a.default (given_for s a d ws)) (events_of (n + 1) s xs d ws)

-- Of a list with x between a and b, the event e stands in a, is x, or stands in b.
data Parted (a : List Event) (x : Event) (b before : List Event) (e : Event) (after : List Event) : Type 0 where
  in_first : (rest : List Event) → a ≡ before ++ e ∷ rest → Parted a x b before e after
  between : before ≡ a → x ≡ e → Parted a x b before e after
  in_last : (rest : List Event) → before ≡ a ++ x ∷ rest → b ≡ rest ++ e ∷ after → Parted a x b before e after

part : (a : List Event) (x : Event) (b before : List Event) (e : Event) (after : List Event) → a ++ x ∷ b ≡ before ++ e ∷ after → Parted a x b before e after
part [] x b [] e after i = between refl (head_same i)
part [] x b (y ∷ before) e after i = in_last before (ap (λ (z : Event). z ∷ before) (sym (head_same i))) (tail_same i)
part (y ∷ a) x b [] e after i = in_first a (ap (λ (z : Event). z ∷ a) (head_same i))
part (y ∷ a) x b (z ∷ before) e after i = on (part a x b before e after (tail_same i))
  where
    on : Parted a x b before e after → Parted (y ∷ a) x b (z ∷ before) e after
    on (in_first rest j) = in_first rest (ap₂ (λ (u : Event) (v : List Event). u ∷ v) (head_same i) j)
    on (between j k) = between (ap₂ (λ (u : Event) (v : List Event). u ∷ v) (sym (head_same i)) j) k
    on (in_last rest j k) = in_last rest (ap₂ (λ (u : Event) (v : List Event). u ∷ v) (sym (head_same i)) j) k

-- What holds of each event of an attribute list, however a tag gives it, holds of those before any event.
module _ (P : Event → Type 0) (s : List ℕ) (es : List Element) (d : List ℕ) where
  abbrev EachOf : Event → List Written → Type 0
  EachOf e ws = All P (attribute_events 1 s ((element_at es (e.number - 1)).attributes) d ws)

  pub before_each : (long : ℕ) (e : Event) → EachOf e (given_by (start_tag_at long d (e.offset + 1)))
      → EachOf e [] → All P (attributes_before long s es d e)
  unfolding attributes_before
  before_each long e given unwritten = by_kind (eqb e.kind 1) (eqb e.kind 2) given unwritten
    where
      by_kind : (a b : Bool) {x y : List Event} → All P x → All P y
          → All P (elim a [ true ↦ x | false ↦ elim b [ true ↦ y | false ↦ [] ] ])
      by_kind true b p q = p
      by_kind false true p q = q
      by_kind false false p q = none

pub of_attribute : (long : ℕ) (s : List ℕ) (es : List Element) (d : List ℕ) (x e : Event)
    → Memᴰ e (attributes_before long s es d x) → OfAttribute e
of_attribute long s es d x e m =
    let xs = (element_at es (x.number - 1)).attributes in
    all_mem (before_each OfAttribute s es d long x
    (events_of 1 s xs d (given_by (start_tag_at long d (x.offset + 1)))) (events_of 1 s xs d [])) m

-- An event of the whole list is that of an attribute, or one of those before, which stands behind the attribute events before it and behind all before, with theirs.
pub data Stood (long : ℕ) (s : List ℕ) (es : List Element) (d : List ℕ) (ev before : List Event) (e : Event) : Type 0 where
  added : (x : Event) → Memᴰ e (attributes_before long s es d x) → Stood long s es d ev before e
  there : (first last : List Event) → ev ≡ first ++ e ∷ last → before ≡ with_attributes long s es d first ++ attributes_before long s es d e → Stood long s es d ev before e

pub stood : (long : ℕ) (s : List ℕ) (es : List Element) (d : List ℕ) (ev before : List Event) (e : Event) (after : List Event) → with_attributes long s es d ev ≡ before ++ e ∷ after → Stood long s es d ev before e
unfolding with_attributes
stood long s es d [] [] e after i = absurd (cons_some i)
stood long s es d [] (x ∷ before) e after i = absurd (cons_some i)
stood long s es d (x ∷ ev) before e after i = by_part (λ rest k. stood long s es d ev rest e after k) (part (attributes_before long s es d x) x (with_attributes long s es d ev) before e after i)
  where
    outward : {rest : List Event} → before ≡ attributes_before long s es d x ++ x ∷ rest → Stood long s es d ev rest e → Stood long s es d (x ∷ ev) before e
    outward j (added y m) = added y m
    outward {rest} j (there first last k l) =
        there (x ∷ first) last (ap (λ (v : List Event). x ∷ v) k)
        (j ∙ ap (λ (v : List Event). attributes_before long s es d x ++ x ∷ v) l ∙ sym (append_assoc (attributes_before long s es d x) (x ∷ with_attributes long s es d first) (attributes_before long s es d e)))

    by_part : ((rest : List Event) → with_attributes long s es d ev ≡ rest ++ e ∷ after → Stood long s es d ev rest e) → Parted (attributes_before long s es d x) x (with_attributes long s es d ev) before e after → Stood long s es d (x ∷ ev) before e
    by_part on (in_first rest j) =
        added x (subst (λ (v : List Event). Memᴰ e v) (sym j) (among before e rest))
    by_part on (between j k) = there [] ev (ap (λ (v : Event). v ∷ ev) k) (j ∙ ap (attributes_before long s es d) k)
    by_part on (in_last rest j k) = outward j (on rest k)
