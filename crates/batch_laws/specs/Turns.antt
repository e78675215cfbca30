-- Laws of the loop over the documents of a batch: a write to one stretch leaves the others, and an answer
-- leaves those before it.
use Rattle.std.specs.Prelude.{ℕ, ◌+◌, ◌-◌, ◌*◌, ◌≤◌, ◌<◌, ◌≡◌, refl, Bool, true, false, List, [], ◌++◌, length, take, drop, get_or, leb}
use Rattle.std.proofs.Common.{sym, ◌∙◌, arith, length-append, length-drop, drop_of_length-le, leb-true, leb-false, length-take-le, get_or-append-add, get_or-take, get_or-drop, ext_get_or}
use Rattle.std.proofs.Math.Decide.{ℕ_discrete}
use Rattle.std.proofs.Math.ListN.{get_or-append}
use Rattle.rules.specs.Settings.{Settings}
use Rattle.rules.specs.Lent.{Lent, filled_with}
use Rattle.rules.specs.Judge.{Answer}
use Rattle.rules.specs.Calls.{answer_numbers}
use Rattle.rules.specs.Batch.{Batch, answer_width, stretch, InStretch, Has, Equal, Unfit, PartAs, AllRead, batch_limit}

-- How long a stretch is that ends within.
pub stretch_length : (from size : ℕ) (l : List ℕ) → from + size ≤ length l → length (stretch from size l) ≡ size
stretch_length from size l h = length-take-le size (drop from l) (omega (arith, length-drop from l))

-- The k-th number of a stretch.
pub stretch_at : (from size : ℕ) (l : List ℕ) (k : ℕ) → k < size → get_or (stretch from size l) k 0 ≡ get_or l (from + k) 0
stretch_at from size l k h = get_or-take size (drop from l) k 0 h ∙ get_or-drop from l k 0

-- Two lists that have the same numbers in a stretch have the same stretch.
pub stretch_same : (from size : ℕ) (l m : List ℕ) → from + size ≤ length l → length m ≡ length l → ((k : ℕ) → InStretch from size k → get_or m k 0 ≡ get_or l k 0) → stretch from size m ≡ stretch from size l
stretch_same from size l m h e same =
    ext_get_or 0 (stretch from size m) (stretch from size l) (stretch_length from size m (omega arith) ∙ sym (stretch_length from size l h)) λ k z.
    let inside : k < size = omega (arith, stretch_length from size m (omega arith)) in
    stretch_at from size m k inside ∙ (same (from + k) (omega arith, omega arith) ∙ sym (stretch_at from size l k inside))

-- A list in which a stretch is changed.
abbrev pub replaced : (l part : List ℕ) (from size : ℕ) → List ℕ
replaced l part from size = take from l ++ (part ++ drop size (drop from l))

module _ (l part : List ℕ) (from size : ℕ) (within : from + size ≤ length l) (whole : length part ≡ size) where
  abbrev pub changed : List ℕ
  changed = replaced l part from size

  front : length (take from l) ≡ from
  front = length-take-le from l (omega arith)

  pub changed_length : length changed ≡ length l
  changed_length = omega (arith, length-append (take from l) (part ++ drop size (drop from l)), front, length-append part (drop size (drop from l)), length-drop size (drop from l), length-drop from l)

  -- The stretch holds what it was changed to.
  inside_at : (k : ℕ) → k < size → get_or changed (from + k) 0 ≡ get_or part k 0
  inside_at k h =
      let e : from + k ≡ length (take from l) + k = omega (arith, front) in
      rw e (get_or-append-add (take from l) (part ++ drop size (drop from l)) k 0) ∙ get_or-append part (drop size (drop from l)) 0 k (omega arith)

  pub changed_inside : stretch from size changed ≡ part
  changed_inside =
      ext_get_or 0 (stretch from size changed) part (stretch_length from size changed (omega (arith, changed_length)) ∙ sym whole) λ k z.
      let inside : k < size = omega (arith, stretch_length from size changed (omega (arith, changed_length))) in
      stretch_at from size changed k inside ∙ inside_at k inside

  -- Every other number is as it was.
  before_at : (k : ℕ) → k < from → get_or changed k 0 ≡ get_or l k 0
  before_at k h = get_or-append (take from l) (part ++ drop size (drop from l)) 0 k (omega (arith, front)) ∙ get_or-take from l k 0 h

  behind_at : (k : ℕ) → get_or changed (from + (size + k)) 0 ≡ get_or l (from + (size + k)) 0
  behind_at k =
      let e : from + (size + k) ≡ length (take from l) + (length part + k) = omega (arith, front) in
      let same : get_or changed (from + (size + k)) 0 ≡ get_or (drop size (drop from l)) k 0 =
      rw e (get_or-append-add (take from l) (part ++ drop size (drop from l)) (length part + k) 0) ∙ get_or-append-add part (drop size (drop from l)) k 0 in
      same ∙ get_or-drop size (drop from l) k 0 ∙ get_or-drop from l (size + k) 0

  pub changed_outside : (k : ℕ) → (InStretch from size k → ⊥) → get_or changed k 0 ≡ get_or l k 0
  changed_outside k out = by_order (leb from k) refl (leb (from + size) k) refl
    where
      by_order : (a : Bool) → leb from k ≡ a → (b : Bool) → leb (from + size) k ≡ b → get_or changed k 0 ≡ get_or l k 0
      by_order false z b y = before_at k (leb-false from k z)
      by_order true z false y = absurd (out (leb-true from k z, leb-false (from + size) k y))
      by_order true z true y =
          let h = leb-true (from + size) k y in
          let e : k ≡ from + (size + (k - from - size)) = omega arith in
          rw e (behind_at (k - from - size))

-- The six numbers of an answer, put at the start of a stretch of six.
pub six_put : (l six part : List ℕ) (x : Answer) (k : ℕ) → k + answer_width ≤ length l → six ≡ answer_numbers x → part ≡ filled_with (take answer_width six) (take (k + answer_width - k) (drop k l)) → take k l ++ (part ++ drop (k + answer_width - k) (drop k l)) ≡ replaced l (answer_numbers x) k answer_width
six_put l six part x k h e p =
    let whole : k + answer_width - k ≡ answer_width = omega arith in
    let none : drop answer_width (take answer_width (drop k l)) ≡ [] = drop_of_length-le (take answer_width (drop k l)) {i = answer_width} (omega (arith, stretch_length k answer_width l h)) in
    rw (p, whole, e, none)

-- What is known of the first n documents of a batch: each is answered in its own stretch, and the rest of the
-- buffer is as it was.
pub record Done (l : Lent) (c : Settings) (s string : List ℕ) (b : Batch) (before given : List ℕ) (n : ℕ) (now answers : List ℕ) : Type 0 where
  pub few : n ≤ length b.starts
  pub same : length now ≡ length before
  pub answers_same : length answers ≡ length given
  pub each : (i : ℕ) → i < n → (x : Answer) × (stretch (answer_width * i) answer_width answers ≡ answer_numbers x)
      × PartAs l c s string (get_or b.starts i 0) (get_or b.lengths i 0) (stretch (get_or b.froms i 0) (get_or b.sizes i 0) before) x (stretch (get_or b.froms i 0) (get_or b.sizes i 0) now)
  pub rest : (k : ℕ) → ((i : ℕ) → i < n → Has b i k → ⊥) → get_or now k 0 ≡ get_or before k 0

pub done_none : (l : Lent) (c : Settings) (s string : List ℕ) (b : Batch) (before given : List ℕ) → Done l c s string b before given 0 before given
done_none l c s string b before given =
    record {
      few = omega arith;
      same = refl;
      answers_same = refl;
      each = λ i h. absurd (omega arith);
      rest = λ k h. refl;
    }

pub done_all : {l : Lent} {c : Settings} {s string : List ℕ} {b : Batch} {before given : List ℕ} {n : ℕ} {now answers : List ℕ} → Done l c s string b before given n now answers → n ≡ length b.starts → length given ≡ answer_width * length b.starts → AllRead l c s string b before answers now
done_all d e g = record { each = λ i h. d.each i (omega arith); rest = λ k h. d.rest k (λ i z. h i (omega arith)); same_length = d.same; answers_length = d.answers_same ∙ g }

-- The lists are fit: what that says of them, and of each document.
module _ (b : Batch) (answers room : ℕ) (fit : Unfit b answers room → ⊥) where
  pub fit_few : length b.starts ≤ batch_limit
  fit_few = by_test (leb (length b.starts) batch_limit) refl
    where
      by_test : (t : Bool) → leb (length b.starts) batch_limit ≡ t → length b.starts ≤ batch_limit
      by_test true e = leb-true _ _ e
      by_test false e = absurd (fit (Unfit.too_many (leb-false _ _ e)))

  -- Were two of them unequal, the lists would be unfit.
  same_else : (m n : ℕ) → (Equal b answers → m ≡ n) → m ≡ n
  same_else m n of = by_test (ℕ_discrete m n)
    where
      by_test : Dec (m ≡ n) → m ≡ n
      by_test (yes z) = z
      by_test (no z) = absurd (fit (Unfit.unequal λ q. z (of q)))

  pub fit_equal : Equal b answers
  fit_equal =
      record {
        lengths_equal = same_else _ _ (λ q. q.lengths_equal);
        froms_equal = same_else _ _ (λ q. q.froms_equal);
        sizes_equal = same_else _ _ (λ q. q.sizes_equal);
        answers_equal = same_else _ _ (λ q. q.answers_equal);
      }

  pub fit_within : (i : ℕ) → i < length b.starts → get_or b.froms i 0 + get_or b.sizes i 0 ≤ room
  fit_within i h = by_test (leb (get_or b.froms i 0 + get_or b.sizes i 0) room) refl
    where
      by_test : (t : Bool) → leb (get_or b.froms i 0 + get_or b.sizes i 0) room ≡ t → get_or b.froms i 0 + get_or b.sizes i 0 ≤ room
      by_test true e = leb-true _ _ e
      by_test false e = absurd (fit (Unfit.passing i h (leb-false _ _ e)))

  pub fit_apart : (i j k : ℕ) → i < j → j < length b.starts → Has b i k → Has b j k → ⊥
  fit_apart i j k h z x y = fit (Unfit.sharing i j k h z x y)

-- The next document is answered.
module _ (l : Lent) (c : Settings) (s string : List ℕ) (b : Batch) (before given : List ℕ) (fit : Unfit b (length given) (length before) → ⊥)
    (n : ℕ) (now answers : List ℕ) (d : Done l c s string b before given n now answers) (more : n < length b.starts) where
  abbrev from : ℕ
  from = get_or b.froms n 0

  abbrev size : ℕ
  size = get_or b.sizes n 0

  pub ends : from + size ≤ length now
  ends = omega (arith, fit_within b (length given) (length before) fit n more, d.same)

  -- Nothing was written to its stretch yet.
  pub done_stretch : stretch from size now ≡ stretch from size before
  done_stretch =
      stretch_same from size before now (omega (arith, d.same, ends)) d.same λ k h.
      d.rest k λ i z x. fit_apart b (length given) (length before) fit i n k z more x h

  module _ (x : Answer) (part : List ℕ) (whole : length part ≡ size) (read : PartAs l c s string (get_or b.starts n 0) (get_or b.lengths n 0) (stretch from size now) x part)
      (room : answer_width * n + answer_width ≤ length answers) where
    abbrev next : List ℕ
    next = changed now part from size ends whole

    abbrev put : List ℕ
    put = changed answers (answer_numbers x) (answer_width * n) answer_width room refl

    each_next : (i : ℕ) → i < n + 1 → (y : Answer) × (stretch (answer_width * i) answer_width put ≡ answer_numbers y)
        × PartAs l c s string (get_or b.starts i 0) (get_or b.lengths i 0) (stretch (get_or b.froms i 0) (get_or b.sizes i 0) before) y (stretch (get_or b.froms i 0) (get_or b.sizes i 0) next)
    each_next i h = by_place (ℕ_discrete i n)
      where
        by_place : Dec (i ≡ n) → (y : Answer) × (stretch (answer_width * i) answer_width put ≡ answer_numbers y)
            × PartAs l c s string (get_or b.starts i 0) (get_or b.lengths i 0) (stretch (get_or b.froms i 0) (get_or b.sizes i 0) before) y (stretch (get_or b.froms i 0) (get_or b.sizes i 0) next)
        by_place (yes z) =
            rw z (x, changed_inside answers (answer_numbers x) (answer_width * n) answer_width room refl, rw (← done_stretch, changed_inside now part from size ends whole) read)
        by_place (no z) =
            let lower : i < n = omega arith in
            let (y, e, p) = d.each i lower in
            let mine = fit_within b (length given) (length before) fit i (omega arith) in
            let kept = stretch_same (get_or b.froms i 0) (get_or b.sizes i 0) now next (omega (arith, mine, d.same)) (changed_length now part from size ends whole)
            (λ k w. changed_outside now part from size ends whole k (λ v. fit_apart b (length given) (length before) fit i n k lower more w v)) in
            let told = stretch_same (answer_width * i) answer_width answers put (omega arith) (changed_length answers (answer_numbers x) (answer_width * n) answer_width room refl)
            (λ k w. changed_outside answers (answer_numbers x) (answer_width * n) answer_width room refl k (λ v. omega (arith, w.1, v.0))) in
            (y, told ∙ e, rw kept p)

    pub done_turn : Done l c s string b before given (n + 1) next put
    done_turn =
        record {
          few = omega arith;
          same = changed_length now part from size ends whole ∙ d.same;
          answers_same = changed_length answers (answer_numbers x) (answer_width * n) answer_width room refl ∙ d.answers_same;
          each = each_next;
          rest = λ k h.
              changed_outside now part from size ends whole k (h n (omega arith)) ∙ d.rest k (λ i z. h i (omega arith));
        }

  -- The same as the code has it: the stretch is what lies between its start and its end, and keeps its
  -- length.
  pub done_again : (m : ℕ) (x : Answer) (part put : List ℕ) → m ≡ size → length part ≡ length (take m (drop from now))
      → PartAs l c s string (get_or b.starts n 0) (get_or b.lengths n 0) (take m (drop from now)) x part → answer_width * n + answer_width ≤ length answers → put ≡ replaced answers (answer_numbers x) (answer_width * n) answer_width
      → Done l c s string b before given (n + 1) (take from now ++ (part ++ drop m (drop from now))) put
  done_again m x part put e w p room a =
      rw (a, e) (done_turn x part (rw e at w ∙ stretch_length from size now ends) (rw e at p) room)
