-- A place lies in a data event exactly if it is counted there; where each place is counted once, it stands in one place of one element.
use Rattle.std.specs.Prelude.{ℕ, zero, suc, ◌+◌, ◌≤◌, ◌<◌, ◌≡◌, refl, Bool, true, false, ◌⊎◌, eqb}
use Rattle.std.proofs.Common.{arith, sym, ◌∙◌, ap, inl, inr, eq-eqb, eqb-true}
use mathlib.Core.List.Memᴰ
use mathlib.Core.List.{List, [], ◌∷◌, ◌++◌, head-eq_of_cons-eq, tail-eq_of_cons-eq, nil≢cons, Memᴰ}
use Rattle.rules.specs.Events.{Event}
use Rattle.rules.specs.RecordEnds.{Thing, markup, boundary, record_end, datum, subelement, IsData, StandsIn}
use Rattle.record_laws.specs.Cases.{is_dropped}
use Rattle.record_laws.specs.Tracks.{kept}
use Rattle.record_laws.specs.Counts.{same, count, run_count, event_count, data_count}
use Rattle.record_laws.specs.Counted.{ended_count}
use Rattle.record_laws.specs.Places.{place_of, places, all_places, same_split}
use Rattle.record_laws.specs.Kept.{same_one}

-- Runs

run_in : (p o n : ℕ) → 1 ≤ run_count p o n → (o ≤ p) × (p < o + n)
run_in p o zero h = absurd (omega arith)
run_in p o (suc n) h = go (run_in p o n) (same_split p (o + n))
  where
    further : (o ≤ p) × (p < o + n) → (o ≤ p) × (p < o + suc n)
    further (a, b) = (a, omega arith)

    go : (1 ≤ run_count p o n → (o ≤ p) × (p < o + n)) → (p ≡ o + n) ⊎ (same p (o + n) ≡ 0) → (o ≤ p) × (p < o + suc n)
    go below (inl e) = (omega arith, omega arith)
    go below (inr e) = further (below (omega arith))

in_run : (p o n : ℕ) → o ≤ p → p < o + n → 1 ≤ run_count p o n
in_run p o zero h i = absurd (omega arith)
in_run p o (suc n) h i = go (in_run p o n h) (same_split p (o + n))
  where
    go : (p < o + n → 1 ≤ run_count p o n) → (p ≡ o + n) ⊎ (same p (o + n) ≡ 0) → 1 ≤ run_count p o n + same p (o + n)
    go below (inl e) = omega (arith, ap (λ (q : ℕ). same p q) (sym e), same_one p)
    go below (inr e) = before (omega (arith, ne e))
      where
        ne : same p (o + n) ≡ 0 → ¬ (p ≡ o + n)
        ne z q = omega (arith, ap (λ (x : ℕ). same p x) (sym q), same_one p)

        before : p < o + n → 1 ≤ run_count p o n + same p (o + n)
        before l = omega (arith, below l)

-- Events

event_in : (p : ℕ) (e : Event) → 1 ≤ event_count p e → (e.kind ≡ 5) × (e.offset ≤ p) × (p < e.offset + e.size)
event_in p e h = go (eqb e.kind 5) refl h
  where
    go : (b : Bool) → eqb e.kind 5 ≡ b → 1 ≤ elim b as (λ _. ℕ) [ true ↦ run_count p e.offset e.size | false ↦ 0 ] → (e.kind ≡ 5) × (e.offset ≤ p) × (p < e.offset + e.size)
    go true q i = (eqb-true e.kind 5 q, (run_in p e.offset e.size i).0, (run_in p e.offset e.size i).1)
    go false q i = absurd (omega arith)

in_event : (p : ℕ) (e : Event) → e.kind ≡ 5 → e.offset ≤ p → p < e.offset + e.size → 1 ≤ event_count p e
in_event p e q h i = let w : 1 ≤ run_count p e.offset e.size = in_run p e.offset e.size h i in rw (eq-eqb e.kind 5 q, event_count) w

pub some_more : (m n : ℕ) → 1 ≤ m + n → (1 ≤ m) ⊎ (1 ≤ n)
some_more zero n h = inr (omega arith)
some_more (suc m) n h = inl (omega arith)

data_tail : {p : ℕ} {e : Event} {ev : List Event} → IsData p ev → IsData p (e ∷ ev)
data_tail x = record { event = x.event; among = Memᴰ.tail x.among; is_data = x.is_data; from = x.from; to = x.to }

pub counted_data : (p : ℕ) (ev : List Event) → 1 ≤ data_count p ev → IsData p ev
counted_data p [] h = absurd (omega arith)
counted_data p (e ∷ ev) h = go (counted_data p ev) (some_more (event_count p e) (data_count p ev) h)
  where
    go : (1 ≤ data_count p ev → IsData p ev) → (1 ≤ event_count p e) ⊎ (1 ≤ data_count p ev) → IsData p (e ∷ ev)
    go below (inl i) = let (a, b, c) = event_in p e i in record { event = e; among = Memᴰ.head refl; is_data = a; from = b; to = c }
    go below (inr i) = data_tail (below i)

pub data_counted : (p : ℕ) (ev : List Event) → IsData p ev → 1 ≤ data_count p ev
data_counted p [] x = absurd (Memᴰ.not-nil x.among)
data_counted p (e ∷ ev) x = go (Memᴰ.cases_cons x.among) (λ m. data_counted p ev (record { event = x.event; among = m; is_data = x.is_data; from = x.from; to = x.to }))
  where
    go : (x.event ≡ e) ⊎ Memᴰ x.event ev → (Memᴰ x.event ev → 1 ≤ data_count p ev) → 1 ≤ event_count p e + data_count p ev
    go (inl q) below = omega (arith, in_event p x.event x.is_data x.from x.to, ap (event_count p) q)
    go (inr m) below = omega (arith, below m)

-- Where a place that is kept stands

record Split (p : ℕ) (a : List Thing) : Type 0 where
  before : List Thing
  thing : Thing
  after : List Thing
  stands : a ≡ before ++ thing ∷ after
  is_that : (thing ≡ datum p) ⊎ (thing ≡ record_end p)

split_more : {p : ℕ} {a : List Thing} (t : Thing) → Split p a → Split p (t ∷ a)
split_more t x = record { before = t ∷ x.before; thing = x.thing; after = x.after; stands = ap (λ l. t ∷ l) x.stands; is_that = x.is_that }

kept_split : (p : ℕ) (a b : List Thing) → 1 ≤ count p (kept b a) → Split p a
kept_split p [] b h = absurd (omega arith)
kept_split p (markup ∷ a) b h = split_more markup (kept_split p a (b ++ markup ∷ []) h)
kept_split p (boundary ∷ a) b h = split_more boundary (kept_split p a (b ++ boundary ∷ []) h)
kept_split p (record_end q ∷ a) b h = go (kept_split p a (b ++ record_end q ∷ [])) (is_dropped b q a) h
  where
    here : (1 ≤ count p (kept (b ++ record_end q ∷ []) a) → Split p a) → (p ≡ q) ⊎ (same p q ≡ 0) → 1 ≤ same p q + count p (kept (b ++ record_end q ∷ []) a) → Split p (record_end q ∷ a)
    here below (inl e) i = record { before = []; thing = record_end q; after = a; stands = refl; is_that = inr (ap record_end (sym e)) }
    here below (inr e) i = split_more (record_end q) (below (omega arith))

    go : (1 ≤ count p (kept (b ++ record_end q ∷ []) a) → Split p a) → (c : Bool) → 1 ≤ count p (elim c as (λ _. List ℕ) [ true ↦ kept (b ++ record_end q ∷ []) a | false ↦ q ∷ kept (b ++ record_end q ∷ []) a ]) → Split p (record_end q ∷ a)
    go below true i = split_more (record_end q) (below i)
    go below false i = here below (same_split p q) i
kept_split p (datum q ∷ a) b h = here (kept_split p a (b ++ datum q ∷ [])) (same_split p q) h
  where
    here : (1 ≤ count p (kept (b ++ datum q ∷ []) a) → Split p a) → (p ≡ q) ⊎ (same p q ≡ 0) → 1 ≤ same p q + count p (kept (b ++ datum q ∷ []) a) → Split p (datum q ∷ a)
    here below (inl e) i = record { before = []; thing = datum q; after = a; stands = refl; is_that = inl (ap datum (sym e)) }
    here below (inr e) i = split_more (datum q) (below (omega arith))
kept_split p (subelement ∷ a) b h = split_more subelement (kept_split p a (b ++ subelement ∷ []) h)

stands_more : {p : ℕ} {cs : List (List Thing)} (c : List Thing) → StandsIn p cs → StandsIn p (c ∷ cs)
stands_more c x =
    record {
      earlier = c ∷ x.earlier;
      element = x.element;
      later = x.later;
      among = ap (λ l. c ∷ l) x.among;
      before = x.before;
      thing = x.thing;
      after = x.after;
      stands = x.stands;
      is_that = x.is_that;
    }

pub ended_stands : (p : ℕ) (cs : List (List Thing)) → 1 ≤ ended_count p cs → StandsIn p cs
ended_stands p [] h = absurd (omega arith)
ended_stands p (c ∷ cs) h = go (ended_stands p cs) (some_more (count p (kept [] c)) (ended_count p cs) h)
  where
    here : Split p c → StandsIn p (c ∷ cs)
    here x = record { earlier = []; element = c; later = cs; among = refl; before = x.before; thing = x.thing; after = x.after; stands = x.stands; is_that = x.is_that }

    go : (1 ≤ ended_count p cs → StandsIn p cs) → (1 ≤ count p (kept [] c)) ⊎ (1 ≤ ended_count p cs) → StandsIn p (c ∷ cs)
    go below (inl i) = here (kept_split p c [] i)
    go below (inr i) = stands_more c (below i)

-- One place

-- In a list whose things count at most 1 together, a thing that counts stands at one place.
module _ {A : Type 0} (f : A → ℕ) where
  abbrev sum : List A → ℕ
  sum [] = 0
  sum (a ∷ l) = f a + sum l

  sum_in : (x : List A) (t : A) (y : List A) → 1 ≤ f t → 1 ≤ sum (x ++ t ∷ y)
  sum_in [] t y h = omega arith
  sum_in (a ∷ x) t y h = omega (arith, sum_in x t y h)

  one_split : (l x y x' y' : List A) (t t' : A) → l ≡ x ++ t ∷ y → l ≡ x' ++ t' ∷ y' → 1 ≤ f t → 1 ≤ f t' → sum l ≤ 1 → (x ≡ x') × (t ≡ t')
  one_split [] [] y x' y' t t' e e' h h' m = absurd (nil≢cons e)
  one_split [] (a ∷ x) y x' y' t t' e e' h h' m = absurd (nil≢cons e)
  one_split (b ∷ l) [] y [] y' t t' e e' h h' m = (refl, sym (head-eq_of_cons-eq e) ∙ head-eq_of_cons-eq e')
  one_split (b ∷ l) [] y (a' ∷ x') y' t t' e e' h h' m =
      let q : 1 ≤ sum l = rw (tail-eq_of_cons-eq e') (sum_in x' t' y' h') in
      absurd (omega (arith, ap f (head-eq_of_cons-eq e)))
  one_split (b ∷ l) (a ∷ x) y [] y' t t' e e' h h' m =
      let q : 1 ≤ sum l = rw (tail-eq_of_cons-eq e) (sum_in x t y h) in
      absurd (omega (arith, ap f (head-eq_of_cons-eq e')))
  one_split (b ∷ l) (a ∷ x) y (a' ∷ x') y' t t' e e' h h' m =
      let w = one_split l x y x' y' t t' (tail-eq_of_cons-eq e) (tail-eq_of_cons-eq e') h h' (omega arith) in
      (together (sym (head-eq_of_cons-eq e) ∙ head-eq_of_cons-eq e') w.0, w.1)
    where
      together : a ≡ a' → x ≡ x' → a ∷ x ≡ a' ∷ x'
      together p q = cc

places_sum : (p : ℕ) (ts : List Thing) → sum (place_of p) ts ≡ places p ts
places_sum p [] = refl
places_sum p (t ∷ ts) = omega (arith, places_sum p ts)

all_sum : (p : ℕ) (cs : List (List Thing)) → sum (places p) cs ≡ all_places p cs
all_sum p [] = refl
all_sum p (c ∷ cs) = omega (arith, all_sum p cs)

thing_place : (p : ℕ) (t : Thing) → (t ≡ datum p) ⊎ (t ≡ record_end p) → 1 ≤ place_of p t
thing_place p t (inl e) = omega (arith, ap (place_of p) e, same_one p)
thing_place p t (inr e) = omega (arith, ap (place_of p) e, same_one p)

element_place : (p : ℕ) {cs : List (List Thing)} (x : StandsIn p cs) → 1 ≤ places p x.element
element_place p x = omega (arith, ap (places p) x.stands, sym (places_sum p (x.before ++ x.thing ∷ x.after)), sum_in (place_of p) x.before x.thing x.after (thing_place p x.thing x.is_that))

element_most : (p : ℕ) (cs : List (List Thing)) (c : List Thing) (a b : List (List Thing)) → cs ≡ a ++ c ∷ b → places p c ≤ all_places p cs
element_most p cs c a b e = omega (arith, ap (all_places p) e, inside a)
  where
    inside : (x : List (List Thing)) → places p c ≤ all_places p (x ++ c ∷ b)
    inside [] = omega arith
    inside (u ∷ x) = omega (arith, inside x)

pub one_place : (p : ℕ) (cs : List (List Thing)) → all_places p cs ≤ 1 → (x y : StandsIn p cs) → (x.earlier ≡ y.earlier) × (x.before ≡ y.before)
one_place p cs h x y =
    let (e, q) = one_split (places p) cs x.earlier x.later y.earlier y.later x.element y.element x.among y.among (element_place p x) (element_place p y) (omega (arith, all_sum p cs)) in
    let m : sum (place_of p) x.element ≤ 1 = omega (arith, places_sum p x.element, element_most p cs x.element x.earlier x.later x.among) in
    (e, (one_split (place_of p) x.element x.before x.after y.before y.after x.thing y.thing x.stands (q ∙ y.stands) (thing_place p x.thing x.is_that) (thing_place p y.thing y.is_that) m).0)
