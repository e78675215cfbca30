-- The tests are the paper's cases.
use Rattle.std.specs.Prelude.{ℕ, ◌≡◌, refl, Bool, true, false, ◌&&◌, ◌||◌, ◌↔◌, ◌⊎◌}
use Rattle.std.proofs.Common.{arith, sym, ◌∙◌, ap, subst, inl, inr}
use Rattle.std.proofs.lemmas.Bool.{false≢true}
use mathlib.Core.List.Memᴰ
use mathlib.Core.List.{List, [], ◌∷◌, ◌++◌, append_assoc, append-nil, head-eq_of_cons-eq, tail-eq_of_cons-eq, nil≢cons, Memᴰ}
use Rattle.rules.specs.RecordEnds.{Thing, markup, boundary, record_end, datum, subelement, First, Last, IsRecord, AfterMarkup, Ignored, TakesNoPlace}
use Rattle.basic_laws.specs.Truth.{or_left, or_right, or_cases, and_left, and_right, and_both}
use Rattle.record_laws.specs.Marks.{is_markup, is_record, all, is_first, is_some, is_after_markup, is_once}

or_either : (a b : Bool) → (a || b) ≡ true → (a ≡ true) ⊎ (b ≡ true)
or_either a b e = or_cases a b inl inr e

-- All

all_each : (f : Thing → Bool) (ts : List Thing) → all f ts ≡ true → (t : Thing) → Memᴰ t ts → f t ≡ true
all_each f [] e t m = absurd (Memᴰ.not-nil m)
all_each f (x ∷ ts) e t m = go (all_each f ts (and_right (f x) (all f ts) e) t) (Memᴰ.cases_cons m)
  where
    go : (Memᴰ t ts → f t ≡ true) → (t ≡ x) ⊎ Memᴰ t ts → f t ≡ true
    go below (inl p) = ap f p ∙ and_left (f x) (all f ts) e
    go below (inr n) = below n

each_all : (f : Thing → Bool) (ts : List Thing) → ((t : Thing) → Memᴰ t ts → f t ≡ true) → all f ts ≡ true
each_all f [] h = refl
each_all f (x ∷ ts) h = and_both (h x (Memᴰ.head refl)) (each_all f ts (λ t m. h t (Memᴰ.tail m)))

-- First

is_first_first : (b : List Thing) → is_first b ≡ true → First b
is_first_first b e =
    record {
      first = λ p m. false≢true (all_each is_markup b e (record_end p) m);
      no_boundary = λ m. false≢true (all_each is_markup b e boundary m);
      no_data = λ p m. false≢true (all_each is_markup b e (datum p) m);
      no_subelement = λ m. false≢true (all_each is_markup b e subelement m);
    }

first_is_first : (b : List Thing) → First b → is_first b ≡ true
first_is_first b h = each_all is_markup b go
  where
    go : (t : Thing) → Memᴰ t b → is_markup t ≡ true
    go markup m = refl
    go boundary m = absurd (h.no_boundary m)
    go (record_end p) m = absurd (h.first p m)
    go (datum p) m = absurd (h.no_data p m)
    go subelement m = absurd (h.no_subelement m)

-- After markup

is_record_lem : (t : Thing) → is_record t ≡ true → IsRecord t
is_record_lem markup e = absurd (false≢true e)
is_record_lem boundary e = inl refl
is_record_lem (record_end p) e = inr (p, refl)
is_record_lem (datum p) e = absurd (false≢true e)
is_record_lem subelement e = absurd (false≢true e)

record_is : (t : Thing) → IsRecord t → is_record t ≡ true
record_is t (inl e) = ap is_record e
record_is t (inr w) = ap is_record w.1

is_markup_lem : (t : Thing) → is_markup t ≡ true → t ≡ markup
is_markup_lem markup e = refl
is_markup_lem boundary e = absurd (false≢true e)
is_markup_lem (record_end p) e = absurd (false≢true e)
is_markup_lem (datum p) e = absurd (false≢true e)
is_markup_lem subelement e = absurd (false≢true e)

some_not : (ts : List Thing) → is_some ts ≡ true → ¬ (ts ≡ [])
some_not ts e f = false≢true (sym (ap is_some f) ∙ e)

not_some : (ts : List Thing) → ¬ (ts ≡ []) → is_some ts ≡ true
not_some [] h = absurd (h refl)
not_some (t ∷ ts) h = refl

more_after : (t : Thing) (ts : List Thing) → AfterMarkup ts → AfterMarkup (t ∷ ts)
more_after t ts w =
    record { earlier = t ∷ w.earlier; mark = w.mark; since = w.since; stands = ap (λ x. t ∷ x) w.stands; is_record = w.is_record; only_markup = w.only_markup; not_directly = w.not_directly }

is_after_after : (b : List Thing) → is_after_markup b ≡ true → AfterMarkup b
is_after_after [] e = absurd (false≢true e)
is_after_after (t ∷ ts) e = go (is_after_after ts) (or_either (is_after_markup ts) (is_record t && (is_some ts && all is_markup ts)) e)
  where
    go : (is_after_markup ts ≡ true → AfterMarkup ts) → (is_after_markup ts ≡ true) ⊎ ((is_record t && (is_some ts && all is_markup ts)) ≡ true) → AfterMarkup (t ∷ ts)
    go below (inl f) = more_after t ts (below f)
    go below (inr f) =
        let g : (is_some ts && all is_markup ts) ≡ true = and_right (is_record t) (is_some ts && all is_markup ts) f in
        record {
          earlier = [];
          mark = t;
          since = ts;
          stands = refl;
          is_record = is_record_lem t (and_left (is_record t) (is_some ts && all is_markup ts) f);
          only_markup = λ u m. is_markup_lem u (all_each is_markup ts (and_right (is_some ts) (all is_markup ts) g) u m);
          not_directly = some_not ts (and_left (is_some ts) (all is_markup ts) g);
        }

after_from : (earlier : List Thing) (mark : Thing) (since : List Thing) → is_record mark ≡ true → is_some since ≡ true → all is_markup since ≡ true → is_after_markup (earlier ++ mark ∷ since) ≡ true
after_from [] mark since r s l = or_right (is_after_markup since) (and_both r (and_both s l))
after_from (x ∷ earlier) mark since r s l = or_left (is_record x && (is_some (earlier ++ mark ∷ since) && all is_markup (earlier ++ mark ∷ since))) (after_from earlier mark since r s l)

after_is_after : (b : List Thing) → AfterMarkup b → is_after_markup b ≡ true
after_is_after b w =
    ap is_after_markup w.stands
    ∙ after_from w.earlier w.mark w.since (record_is w.mark w.is_record) (not_some w.since w.not_directly) (each_all is_markup w.since (λ t m. ap is_markup (w.only_markup t m)))

-- Ignored

once_case : (b : List Thing) → is_once b ≡ true → TakesNoPlace b
once_case b e = go (or_either (is_first b) (is_after_markup b) e)
  where
    go : (is_first b ≡ true) ⊎ (is_after_markup b ≡ true) → TakesNoPlace b
    go (inl f) = inl (is_first_first b f)
    go (inr f) = inr (is_after_after b f)

case_once : (b : List Thing) → TakesNoPlace b → is_once b ≡ true
case_once b (inl f) = or_left (is_after_markup b) (first_is_first b f)
case_once b (inr f) = or_right (is_first b) (after_is_after b f)

pub once_means : (b : List Thing) → (is_once b ≡ true) ↔ TakesNoPlace b
once_means b = (once_case b, case_once b)

-- Last

abbrev pub is_last : (up_to after : List Thing) → Bool
is_last b [] = true
is_last b (markup ∷ a) = is_last (b ++ markup ∷ []) a
is_last b (boundary ∷ a) = is_last (b ++ boundary ∷ []) a
is_last b (record_end p ∷ a) = is_once b && is_last (b ++ record_end p ∷ []) a
is_last b (datum p ∷ a) = false
is_last b (subelement ∷ a) = false

onward : (t : Thing) (a b : List Thing) → Last b (t ∷ a) → Last (b ++ t ∷ []) a
onward t a b w =
    record {
      no_data = λ p m. w.no_data p (Memᴰ.tail m);
      no_subelement = λ m. w.no_subelement (Memᴰ.tail m);
      last = λ x y p e. subst (λ (l : List Thing). TakesNoPlace l) (sym (append_assoc b (t ∷ []) x)) (w.last (t ∷ x) y p (ap (λ l. t ∷ l) e));
    }

case_last : (a b : List Thing) → Last b a → is_last b a ≡ true
case_last [] b w = refl
case_last (markup ∷ a) b w = case_last a (b ++ markup ∷ []) (onward markup a b w)
case_last (boundary ∷ a) b w = case_last a (b ++ boundary ∷ []) (onward boundary a b w)
case_last (record_end p ∷ a) b w =
    let e : is_once b ≡ true = (once_means b).1 (subst (λ (l : List Thing). TakesNoPlace l) (append-nil b) (w.last [] a p refl)) in
    ap (λ c. c && is_last (b ++ record_end p ∷ []) a) e ∙ case_last a (b ++ record_end p ∷ []) (onward (record_end p) a b w)
case_last (datum p ∷ a) b w = absurd (w.no_data p (Memᴰ.head refl))
case_last (subelement ∷ a) b w = absurd (w.no_subelement (Memᴰ.head refl))

-- The thing t is neither data nor a subelement, and if it is a byte 13 it is ignored by what stands before.
record Quiet (b : List Thing) (t : Thing) : Type 0 where
  no_data : (p : ℕ) → ¬ (datum p ≡ t)
  no_subelement : ¬ (subelement ≡ t)
  once : (p : ℕ) → t ≡ record_end p → TakesNoPlace b

back : (t : Thing) (a b : List Thing) → Quiet b t → Last (b ++ t ∷ []) a → Last b (t ∷ a)
back t a b h w =
    record {
      no_data = λ p m. data_in p (Memᴰ.cases_cons m);
      no_subelement = λ m. sub_in (Memᴰ.cases_cons m);
      last = last_in;
    }
  where
    data_in : (p : ℕ) → (datum p ≡ t) ⊎ Memᴰ (datum p) a → ⊥
    data_in p (inl e) = h.no_data p e
    data_in p (inr m) = w.no_data p m

    sub_in : (subelement ≡ t) ⊎ Memᴰ subelement a → ⊥
    sub_in (inl e) = h.no_subelement e
    sub_in (inr m) = w.no_subelement m

    last_in : (x y : List Thing) (p : ℕ) → t ∷ a ≡ x ++ record_end p ∷ y → TakesNoPlace (b ++ x)
    last_in [] y p e = subst (λ (l : List Thing). TakesNoPlace l) (sym (append-nil b)) (h.once p (head-eq_of_cons-eq e))
    last_in (u ∷ x) y p e =
        subst (λ (l : List Thing). TakesNoPlace l) (append_assoc b (t ∷ []) x ∙ ap (λ v. b ++ v ∷ x) (head-eq_of_cons-eq e)) (w.last x y p (tail-eq_of_cons-eq e))

abbrev kind : Thing → ℕ
kind markup = 0
kind boundary = 1
kind (record_end p) = 2
kind (datum p) = 3
kind subelement = 4

last_case : (a b : List Thing) → is_last b a ≡ true → Last b a
last_case [] b e = record { no_data = λ p m. Memᴰ.not-nil m; no_subelement = λ m. Memᴰ.not-nil m; last = none }
  where
    none : (x y : List Thing) (p : ℕ) → [] ≡ x ++ record_end p ∷ y → TakesNoPlace (b ++ x)
    none [] y p f = absurd (nil≢cons f)
    none (u ∷ x) y p f = absurd (nil≢cons f)
last_case (markup ∷ a) b e =
    back markup a b (record { no_data = λ p f. omega (arith, ap kind f); no_subelement = λ f. omega (arith, ap kind f); once = λ p f. absurd (omega (arith, ap kind f)) }) (last_case a (b ++ markup ∷ []) e)
last_case (boundary ∷ a) b e =
    back boundary a b (record { no_data = λ p f. omega (arith, ap kind f); no_subelement = λ f. omega (arith, ap kind f); once = λ p f. absurd (omega (arith, ap kind f)) }) (last_case a (b ++ boundary ∷ []) e)
last_case (record_end q ∷ a) b e =
    back (record_end q) a b (record { no_data = λ p f. omega (arith, ap kind f); no_subelement = λ f. omega (arith, ap kind f); once = λ p f. (once_means b).0 (and_left (is_once b) (is_last (b ++ record_end q ∷ []) a) e) }) (last_case a (b ++ record_end q ∷ []) (and_right (is_once b) (is_last (b ++ record_end q ∷ []) a) e))
last_case (datum p ∷ a) b e = absurd (false≢true e)
last_case (subelement ∷ a) b e = absurd (false≢true e)

-- Ignored

abbrev pub is_dropped : (before : List Thing) (p : ℕ) (after : List Thing) → Bool
is_dropped before p after = is_once before || is_last (before ++ record_end p ∷ []) after

dropped_case : (b : List Thing) (p : ℕ) (a : List Thing) → is_dropped b p a ≡ true → Ignored b p a
dropped_case b p a e = go (or_either (is_once b) (is_last (b ++ record_end p ∷ []) a) e)
  where
    from : TakesNoPlace b → Ignored b p a
    from (inl f) = inl f
    from (inr f) = inr (inr f)

    go : (is_once b ≡ true) ⊎ (is_last (b ++ record_end p ∷ []) a ≡ true) → Ignored b p a
    go (inl f) = from (once_case b f)
    go (inr f) = inr (inl (last_case a (b ++ record_end p ∷ []) f))

case_dropped : (b : List Thing) (p : ℕ) (a : List Thing) → Ignored b p a → is_dropped b p a ≡ true
case_dropped b p a (inl f) = or_left (is_last (b ++ record_end p ∷ []) a) (case_once b (inl f))
case_dropped b p a (inr (inl f)) = or_right (is_once b) (case_last a (b ++ record_end p ∷ []) f)
case_dropped b p a (inr (inr f)) = or_left (is_last (b ++ record_end p ∷ []) a) (case_once b (inr f))

pub dropped_means : (b : List Thing) (p : ℕ) (a : List Thing) → (is_dropped b p a ≡ true) ↔ Ignored b p a
dropped_means b p a = (dropped_case b p a, case_dropped b p a)
