-- The two cases that go by what stands before, as tests, and the mark by which they are decided from left to right: fresh, directly behind a byte 10 or
-- 13, markup since, or other.
use Rattle.std.specs.Prelude.{◌≡◌, refl, Bool, true, false, ◌&&◌, ◌||◌, List, [], ◌∷◌, ◌++◌}
use Rattle.std.proofs.Common.{sym, ◌∙◌, ap, ap₂, append_assoc, append-nil}
use Rattle.std.proofs.Math.Bool.{and-false, and-true, and_assoc}
use Rattle.rules.specs.RecordEnds.{Thing, markup, boundary, record_end, datum, subelement}

-- Tests

abbrev pub is_markup : Thing → Bool
is_markup markup = true
is_markup boundary = false
is_markup (record_end p) = false
is_markup (datum p) = false
is_markup subelement = false

abbrev pub is_record : Thing → Bool
is_record markup = false
is_record boundary = true
is_record (record_end p) = true
is_record (datum p) = false
is_record subelement = false

abbrev pub all : (Thing → Bool) → List Thing → Bool
all f [] = true
all f (t ∷ ts) = f t && all f ts

abbrev pub is_first : List Thing → Bool
is_first before = all is_markup before

-- The last byte 10 or 13 is followed by markup only, and by some: what follows the first thing is looked at first.
abbrev pub is_some : {A : Type 0} → List A → Bool
is_some [] = false
is_some (t ∷ ts) = true

abbrev pub is_after_markup : List Thing → Bool
is_after_markup [] = false
is_after_markup (t ∷ ts) = is_after_markup ts || (is_record t && (is_some ts && all is_markup ts))

-- Ignored at once, by what stands before.
abbrev pub is_once : List Thing → Bool
is_once before = is_first before || is_after_markup before

-- Marks

-- Nothing but markup yet; directly after a byte 10 or 13; only markup since the last of these; data or a subelement since.
pub data Mark : Type 0 where
  fresh : Mark
  directly : Mark
  markup_since : Mark
  other : Mark

abbrev pub after_markup : Mark → Mark
after_markup fresh = fresh
after_markup directly = markup_since
after_markup markup_since = markup_since
after_markup other = other

abbrev pub marked : Mark → Thing → Mark
marked m markup = after_markup m
marked m boundary = directly
marked m (record_end p) = directly
marked m (datum p) = other
marked m subelement = other

abbrev pub drops_now : Mark → Bool
drops_now fresh = true
drops_now directly = false
drops_now markup_since = true
drops_now other = false

-- A test at one thing more

or_shuffle : (a d r : Bool) → ((a || d) || r) ≡ ((a || r) || d)
or_shuffle true d r = refl
or_shuffle false true true = refl
or_shuffle false true false = refl
or_shuffle false false true = refl
or_shuffle false false false = refl

all_snoc : (f : Thing → Bool) (b : List Thing) (t : Thing) → all f (b ++ t ∷ []) ≡ (all f b && f t)
all_snoc f [] t = and-true (f t)
all_snoc f (x ∷ b) t = ap (λ c. f x && c) (all_snoc f b t) ∙ sym (and_assoc (f x) (all f b) (f t))

-- The last thing is a byte 10 or 13.
abbrev pub is_directly : List Thing → Bool
is_directly [] = false
is_directly (t ∷ []) = is_record t
is_directly (t ∷ u ∷ ts) = is_directly (u ∷ ts)

directly_snoc : (b : List Thing) (t : Thing) → is_directly (b ++ t ∷ []) ≡ is_record t
directly_snoc [] t = refl
directly_snoc (x ∷ []) t = refl
directly_snoc (x ∷ y ∷ b) t = directly_snoc (y ∷ b) t

after_snoc : (b : List Thing) (t : Thing) → is_after_markup (b ++ t ∷ []) ≡ (is_markup t && (is_after_markup b || is_directly b))
after_snoc [] t = go (is_record t) (is_markup t)
  where
    go : (r m : Bool) → (r && false) ≡ (m && false)
    go true true = refl
    go true false = refl
    go false true = refl
    go false false = refl
after_snoc (x ∷ []) t = go (is_record x) (is_markup t) (is_record t)
  where
    go : (r m s : Bool) → (((s && false)) || (r && (m && true))) ≡ (m && ((r && false) || r))
    go true true true = refl
    go true true false = refl
    go true false true = refl
    go true false false = refl
    go false true true = refl
    go false true false = refl
    go false false true = refl
    go false false false = refl
after_snoc (x ∷ y ∷ b) t =
    ap₂ (λ u v. u || (is_record x && v)) (after_snoc (y ∷ b) t) (all_snoc is_markup (y ∷ b) t)
    ∙ go (is_markup t) (is_after_markup (y ∷ b)) (is_directly (y ∷ b)) (is_record x) (all is_markup (y ∷ b))
  where
    go : (m a d r l : Bool) → ((m && (a || d)) || (r && (l && m))) ≡ (m && ((a || (r && l)) || d))
    go true a d r l = ap (λ z. (a || d) || (r && z)) (and-true l) ∙ or_shuffle a d (r && l)
    go false a d r l = ap (λ z. r && z) (and-false l) ∙ and-false r

-- Marks

abbrev says_first : Mark → Bool
says_first fresh = true
says_first directly = false
says_first markup_since = false
says_first other = false

abbrev says_directly : Mark → Bool
says_directly fresh = false
says_directly directly = true
says_directly markup_since = false
says_directly other = false

abbrev says_markup : Mark → Bool
says_markup fresh = false
says_markup directly = false
says_markup markup_since = true
says_markup other = false

-- The mark says what stands before.
pub record Marked (m : Mark) (b : List Thing) : Type 0 where
  pub first : is_first b ≡ says_first m
  pub direct : is_directly b ≡ says_directly m
  pub after : is_after_markup b ≡ says_markup m

first_marked : (m : Mark) (t : Thing) → (says_first m && is_markup t) ≡ says_first (marked m t)
first_marked fresh markup = refl
first_marked directly markup = refl
first_marked markup_since markup = refl
first_marked other markup = refl
first_marked m boundary = and-false (says_first m)
first_marked m (record_end p) = and-false (says_first m)
first_marked m (datum p) = and-false (says_first m)
first_marked m subelement = and-false (says_first m)

direct_marked : (m : Mark) (t : Thing) → is_record t ≡ says_directly (marked m t)
direct_marked fresh markup = refl
direct_marked directly markup = refl
direct_marked markup_since markup = refl
direct_marked other markup = refl
direct_marked m boundary = refl
direct_marked m (record_end p) = refl
direct_marked m (datum p) = refl
direct_marked m subelement = refl

after_marked : (m : Mark) (t : Thing) → (is_markup t && (says_markup m || says_directly m)) ≡ says_markup (marked m t)
after_marked fresh markup = refl
after_marked directly markup = refl
after_marked markup_since markup = refl
after_marked other markup = refl
after_marked m boundary = refl
after_marked m (record_end p) = refl
after_marked m (datum p) = refl
after_marked m subelement = refl

pub marked_start : Marked fresh []
marked_start = record { first = refl; direct = refl; after = refl }

pub marked_snoc : {m : Mark} {b : List Thing} → Marked m b → (t : Thing) → Marked (marked m t) (b ++ t ∷ [])
marked_snoc {m} {b} k t =
    record {
      first = all_snoc is_markup b t ∙ ap (λ c. c && is_markup t) k.first ∙ first_marked m t;
      direct = directly_snoc b t ∙ direct_marked m t;
      after = after_snoc b t ∙ ap₂ (λ c e. is_markup t && (c || e)) k.after k.direct ∙ after_marked m t;
    }

-- The mark decides the two cases that go by what stands before.
drops_says : (m : Mark) → (says_first m || says_markup m) ≡ drops_now m
drops_says fresh = refl
drops_says directly = refl
drops_says markup_since = refl
drops_says other = refl

pub marked_decides : {m : Mark} {b : List Thing} → Marked m b → is_once b ≡ drops_now m
marked_decides {m} k = ap₂ (λ c e. c || e) k.first k.after ∙ drops_says m

-- The mark behind these things, where m stands before them, and behind those of an element.
abbrev pub marks : Mark → List Thing → Mark
marks m [] = m
marks m (t ∷ ts) = marks (marked m t) ts

abbrev pub mark_of : List Thing → Mark
mark_of ts = marks fresh ts

pub marks_snoc : (m : Mark) (ts : List Thing) (t : Thing) → marks m (ts ++ t ∷ []) ≡ marked (marks m ts) t
marks_snoc m [] t = refl
marks_snoc m (x ∷ ts) t = marks_snoc (marked m x) ts t

marks_marked : (a b : List Thing) {m : Mark} → Marked m b → Marked (marks m a) (b ++ a)
marks_marked [] b k = rw append-nil k
marks_marked (t ∷ a) b k = rw append_assoc at (marks_marked a (b ++ t ∷ []) (marked_snoc k t))

-- It decides whether a byte 13 behind them is ignored by what stands before it.
pub mark_decides : (ts : List Thing) → is_once ts ≡ drops_now (mark_of ts)
mark_decides ts = marked_decides (marks_marked ts [] marked_start)
