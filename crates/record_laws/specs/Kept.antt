-- What is kept of one element and of all, by places: a byte 13 is kept exactly if none of the three cases holds of it, and every other data byte is.
use Rattle.std.specs.Prelude.{ℕ, ◌+◌, ◌≤◌, ◌≡◌, refl, Bool, true, false, ◌⊎◌}
use Rattle.std.proofs.Common.{arith, ◌∙◌, ap, inl, inr, eq-eqb}
use mathlib.Core.List.Memᴰ
use mathlib.Core.List.{List, [], ◌∷◌, ◌++◌, append_assoc, append-nil, Memᴰ}
use Rattle.rules.specs.RecordEnds.{Thing, markup, boundary, record_end, datum, subelement}
use Rattle.record_laws.specs.Marks.{drops_now}
use Rattle.record_laws.specs.Cases.{is_dropped}
use Rattle.record_laws.specs.Tracks.{kept, due, Track, ended13, next, through, at_start}
use Rattle.record_laws.specs.Counts.{same, count, count_append}
use Rattle.record_laws.specs.Counted.{line_count, so_far, ended_count}
use Rattle.record_laws.specs.Places.{place_of, places, places_append, all_places}

-- What is data is a thing

ended_most : (p q : ℕ) (l : Track) (b : Bool) → line_count p (ended13 l q b) ≤ line_count p l + same p q
ended_most p q l true = omega arith
ended_most p q l false = omega (arith, count_append p l.written (due l.held))

line_most : (p : ℕ) (l : Track) (t : Thing) → line_count p (next l t) ≤ line_count p l + place_of p t
line_most p l markup = omega arith
line_most p l boundary = omega arith
line_most p l (record_end q) = ended_most p q l (drops_now l.mark)
line_most p l (datum q) = omega (arith, count_append p l.written (due l.held ++ q ∷ []), count_append p (due l.held) (q ∷ []))
line_most p l subelement = omega (arith, count_append p l.written (due l.held))

through_most : (p : ℕ) (a : List Thing) (l : Track) → line_count p (through l a) ≤ line_count p l + places p a
through_most p [] l = omega arith
through_most p (t ∷ a) l = omega (arith, line_most p l t, through_most p a (next l t))

pub so_far_most : (p : ℕ) (c : List Thing) → so_far p c ≤ places p c
so_far_most p c = omega (arith, through_most p c at_start)

pub kept_most : (p : ℕ) (a b : List Thing) → count p (kept b a) ≤ places p a
kept_most p [] b = omega arith
kept_most p (markup ∷ a) b = omega (arith, kept_most p a (b ++ markup ∷ []))
kept_most p (boundary ∷ a) b = omega (arith, kept_most p a (b ++ boundary ∷ []))
kept_most p (record_end q ∷ a) b = go (kept_most p a (b ++ record_end q ∷ [])) (is_dropped b q a)
  where
    go : count p (kept (b ++ record_end q ∷ []) a) ≤ places p a → (c : Bool) → count p (elim c as (λ _. List ℕ) [ true ↦ kept (b ++ record_end q ∷ []) a | false ↦ q ∷ kept (b ++ record_end q ∷ []) a ]) ≤ same p q + places p a
    go h true = omega arith
    go h false = omega arith
kept_most p (datum q ∷ a) b = omega (arith, kept_most p a (b ++ datum q ∷ []))
kept_most p (subelement ∷ a) b = omega (arith, kept_most p a (b ++ subelement ∷ []))

pub all_most : (p : ℕ) (cs : List (List Thing)) → ended_count p cs ≤ all_places p cs
all_most p [] = omega arith
all_most p (c ∷ cs) = omega (arith, kept_most p c [], all_most p cs)

-- One byte of one element

kept_from : (p : ℕ) (x b y : List Thing) → places p x ≡ 0 → count p (kept b (x ++ y)) ≡ count p (kept (b ++ x) y)
kept_from p [] b y h = rw append-nil refl
kept_from p (markup ∷ x) b y h = kept_from p x (b ++ markup ∷ []) y (omega arith) ∙ ap (λ l. count p (kept l y)) (append_assoc b (markup ∷ []) x)
kept_from p (boundary ∷ x) b y h = kept_from p x (b ++ boundary ∷ []) y (omega arith) ∙ ap (λ l. count p (kept l y)) (append_assoc b (boundary ∷ []) x)
kept_from p (record_end q ∷ x) b y h = go (kept_from p x (b ++ record_end q ∷ []) y (omega arith) ∙ ap (λ l. count p (kept l y)) (append_assoc b (record_end q ∷ []) x)) (is_dropped b q (x ++ y))
  where
    go : count p (kept (b ++ record_end q ∷ []) (x ++ y)) ≡ count p (kept (b ++ record_end q ∷ x) y) → (c : Bool) → count p (elim c as (λ _. List ℕ) [ true ↦ kept (b ++ record_end q ∷ []) (x ++ y) | false ↦ q ∷ kept (b ++ record_end q ∷ []) (x ++ y) ]) ≡ count p (kept (b ++ record_end q ∷ x) y)
    go e true = e
    go e false = omega arith
kept_from p (datum q ∷ x) b y h =
    let e : count p (kept (b ++ datum q ∷ []) (x ++ y)) ≡ count p (kept (b ++ datum q ∷ x) y) = kept_from p x (b ++ datum q ∷ []) y (omega arith) ∙ ap (λ l. count p (kept l y)) (append_assoc b (datum q ∷ []) x) in
    omega arith
kept_from p (subelement ∷ x) b y h = kept_from p x (b ++ subelement ∷ []) y (omega arith) ∙ ap (λ l. count p (kept l y)) (append_assoc b (subelement ∷ []) x)

pub same_one : (p : ℕ) → same p p ≡ 1
unfolding same
same_one p = rw (eq-eqb p p refl, same)

-- In an element where no other thing has the place p.
pub kept_datum : (p : ℕ) (before after : List Thing) → places p (before ++ datum p ∷ after) ≤ 1 → count p (kept [] (before ++ datum p ∷ after)) ≡ 1
kept_datum p before after h =
    let f = places_append p before (datum p ∷ after) in
    omega (arith, kept_from p before [] (datum p ∷ after) (omega (arith, same_one p)), same_one p, kept_most p after (before ++ datum p ∷ []))

pub kept_end : (p : ℕ) (before after : List Thing) (c : Bool) → is_dropped before p after ≡ c → places p (before ++ record_end p ∷ after) ≤ 1 → count p (kept [] (before ++ record_end p ∷ after)) ≡ elim c as (λ _. ℕ) [ true ↦ 0 | false ↦ 1 ]
kept_end p before after c e h =
    let f = places_append p before (record_end p ∷ after) in
    kept_from p before [] (record_end p ∷ after) (omega (arith, same_one p))
    ∙ ap (λ (x : Bool). count p (elim x as (λ _. List ℕ) [ true ↦ kept (before ++ record_end p ∷ []) after | false ↦ p ∷ kept (before ++ record_end p ∷ []) after ])) e
    ∙ go c (omega (arith, same_one p))
  where
    go : (x : Bool) → places p after ≡ 0 → count p (elim x as (λ _. List ℕ) [ true ↦ kept (before ++ record_end p ∷ []) after | false ↦ p ∷ kept (before ++ record_end p ∷ []) after ]) ≡ elim x as (λ _. ℕ) [ true ↦ 0 | false ↦ 1 ]
    go true k = omega (arith, kept_most p after (before ++ record_end p ∷ []))
    go false k = omega (arith, same_one p, kept_most p after (before ++ record_end p ∷ []))

-- One element of all

pub record Parts (p : ℕ) (c : List Thing) (cs : List (List Thing)) : Type 0 where
  pub rest : ℕ
  pub others : ℕ
  pub counts : ended_count p cs ≡ count p (kept [] c) + rest
  pub stand : all_places p cs ≡ places p c + others
  pub most : rest ≤ others

pub part : (p : ℕ) (c : List Thing) (cs : List (List Thing)) → Memᴰ c cs → Parts p c cs
part p c [] m = absurd (Memᴰ.not-nil m)
part p c (x ∷ cs) m = go (part p c cs) (Memᴰ.cases_cons m)
  where
    go : (Memᴰ c cs → Parts p c cs) → (c ≡ x) ⊎ Memᴰ c cs → Parts p c (x ∷ cs)
    go below (inl e) =
        record {
          rest = ended_count p cs;
          others = all_places p cs;
          counts = omega (arith, ap (λ l. count p (kept [] l)) e);
          stand = omega (arith, ap (places p) e);
          most = all_most p cs;
        }
    go below (inr n) =
        let w = below n in
        record {
          rest = count p (kept [] x) + w.rest;
          others = places p x + w.others;
          counts = omega (arith, w.counts);
          stand = omega (arith, w.stand);
          most = omega (arith, w.most, kept_most p x []);
        }
