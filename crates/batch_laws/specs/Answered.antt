-- The rules have an answer to every batch, and only one, with what the buffer and the answers hold after:
-- where they have so of each part.
use Rattle.std.specs.Prelude.{ℕ, zero, suc, ◌+◌, ◌-◌, ◌*◌, ◌/◌, ◌≤◌, ◌<◌, ◌≡◌, refl, Bool, true, false, List, ◌⊎◌, length, get_or}
use Rattle.std.proofs.Common.{sym, ap, ◌∙◌, subst, true≢false, inl, inr, arith, ext_get_or}
use Rattle.std.proofs.Math.Decide.{ℕ_discrete, dec_lt}
use Rattle.rules.specs.Settings.{Settings, is_offered}
use Rattle.rules.specs.Lent.{Lent, zeroed}
use Rattle.rules.specs.Judge.{Answer, refusal, acceptance}
use Rattle.rules.specs.Calls.{answer_numbers}
use Rattle.rules.specs.Batch.{Batch, answer_width, stretch, Has, Unfit, PartAs, AllRead, Batched}
use Rattle.batch_laws.specs.Turns.{stretch_length, stretch_at, Done, done_none, done_all, done_turn, ends, fit_equal}
use Rattle.batch_laws.specs.Fitting.{unfit_or_not}

-- Whether the k-th number is in the stretch of one of the first n documents is decided.
held_or_not : (b : Batch) (k n : ℕ) → ((i : ℕ) × (i < n) × Has b i k) ⊎ ((i : ℕ) → i < n → Has b i k → ⊥)
held_or_not b k zero = inr λ i h. absurd (omega arith)
held_or_not b k (suc n) =
    let from = get_or b.froms n 0 in
    go (held_or_not b k n) (dec_lt k from) (dec_lt k (from + get_or b.sizes n 0))
  where
    go : ((i : ℕ) × (i < n) × Has b i k) ⊎ ((i : ℕ) → i < n → Has b i k → ⊥) → Dec (k < get_or b.froms n 0)
        → Dec (k < get_or b.froms n 0 + get_or b.sizes n 0)
        → ((i : ℕ) × (i < suc n) × Has b i k) ⊎ ((i : ℕ) → i < suc n → Has b i k → ⊥)
    go (inl (i, l, h)) p q = inl (i, omega arith, h)
    go (inr none) (no p) (yes q) = inl (n, omega arith, (omega arith, q))
    go (inr none) (yes p) q = inr λ i l h. last i l h (ℕ_discrete i n)
      where
        last : (i : ℕ) → i < suc n → Has b i k → Dec (i ≡ n) → ⊥
        last i l h (yes e) = let z = rw e at h.0 in omega arith
        last i l h (no e) = none i (omega arith) h
    go (inr none) (no p) (no q) = inr λ i l h. last i l h (ℕ_discrete i n)
      where
        last : (i : ℕ) → i < suc n → Has b i k → Dec (i ≡ n) → ⊥
        last i l h (yes e) = let z = rw e at h.1 in omega arith
        last i l h (no e) = none i (omega arith) h

-- Two lists with the same stretch have the same number there.
stretch_number : (from size : ℕ) (l m : List ℕ) (k : ℕ) → stretch from size l ≡ stretch from size m → from ≤ k
    → k < from + size → get_or l k 0 ≡ get_or m k 0
stretch_number from size l m k e h z =
    let there : k ≡ from + (k - from) = omega arith in
    let left = stretch_at from size l (k - from) (omega arith) in
    let right = stretch_at from size m (k - from) (omega arith) in
    rw there (sym left ∙ ap (λ (part : List ℕ). get_or part (k - from) 0) e ∙ right)

-- What the rules settle of a part of the string and its stretch of the buffer: no two answers, and one.
abbrev pub PartOnce : Lent → Settings → (s string : List ℕ) → Type 0
PartOnce l c s string =
    (start size : ℕ) (part : List ℕ) (x y : Answer) (left other : List ℕ)
    → PartAs l c s string start size part x left → PartAs l c s string start size part y other
    → (x ≡ y) × (left ≡ other)

abbrev pub PartSome : Lent → Settings → (s string : List ℕ) → Type 0
PartSome l c s string =
    (start size : ℕ) (part : List ℕ)
    → (x : Answer) × (left : List ℕ) × PartAs l c s string start size part x left × (length left ≡ length part)

-- The first n documents have answers.
record SomeDone (l : Lent) (c : Settings) (s string : List ℕ) (b : Batch) (before given : List ℕ) (n : ℕ) : Type 0
  where
    now : List ℕ
    answers : List ℕ
    done : Done l c s string b before given n now answers

one_more : (n : ℕ) → n + 1 ≡ suc n
one_more n = omega arith

module _ (l : Lent) (c : Settings) (s string : List ℕ) (b : Batch) (before given : List ℕ) where
  -- Only one

  module _ (part_one : PartOnce l c s string) where
    -- Two answers to all documents agree on each of them.
    each_one : (answers after told left : List ℕ) → AllRead l c s string b before answers after
        → AllRead l c s string b before told left → (i : ℕ) → i < length b.starts
        → (stretch (answer_width * i) answer_width answers ≡ stretch (answer_width * i) answer_width told)
        × (stretch (get_or b.froms i 0) (get_or b.sizes i 0) after
        ≡ stretch (get_or b.froms i 0) (get_or b.sizes i 0) left)
    each_one answers after told left r q i h =
        let (x, e, p) = r.each i h in
        let (y, f, z) = q.each i h in
        let (same, held) = part_one _ _ _ x y _ _ p z in
        (e ∙ ap answer_numbers same ∙ sym f, held)

    all_one : (answers after told left : List ℕ) → AllRead l c s string b before answers after
        → AllRead l c s string b before told left → (answers ≡ told) × (after ≡ left)
    all_one answers after told left r q = (
      ext_get_or 0 answers told (r.answers_length ∙ sym q.answers_length) (λ k h.
          let i = k / answer_width in
          let few : i < length b.starts = omega (arith, r.answers_length) in
          let same = (each_one answers after told left r q i few).0 in
          stretch_number (answer_width * i) answer_width answers told k same (omega arith) (omega arith)),
      ext_get_or 0 after left (r.same_length ∙ sym q.same_length)
          (λ k h. go k (held_or_not b k (length b.starts))),
    )
      where
        go : (k : ℕ)
            → ((i : ℕ) × (i < length b.starts) × Has b i k) ⊎ ((i : ℕ) → i < length b.starts → Has b i k → ⊥)
            → get_or after k 0 ≡ get_or left k 0
        go k (inl (i, z, h)) =
            let same = (each_one answers after told left r q i z).1 in
            stretch_number (get_or b.froms i 0) (get_or b.sizes i 0) after left k same h.0 h.1
        go k (inr none) = r.rest k none ∙ sym (q.rest k none)

    pub batched_once : (a x : Answer) (answers after told left : List ℕ)
        → Batched l c s string b before given a answers after
        → Batched l c s string b before given x told left → (a ≡ x) × (answers ≡ told) × (after ≡ left)
    batched_once a x answers after told left r q = go r q
      where
        go : Batched l c s string b before given a answers after
            → Batched l c s string b before given x told left → (a ≡ x) × (answers ≡ told) × (after ≡ left)
        go (Batched.not_offered o e g z) (Batched.not_offered p f h y) = (e ∙ sym f, g ∙ sym h, z ∙ sym y)
        go (Batched.not_offered o e g z) (Batched.unfit p u f h y) = absurd (true≢false (sym p ∙ o))
        go (Batched.not_offered o e g z) (Batched.reads p n f m) = absurd (true≢false (sym p ∙ o))
        go (Batched.unfit o u e g z) (Batched.not_offered p f h y) = absurd (true≢false (sym o ∙ p))
        go (Batched.unfit o u e g z) (Batched.unfit p v f h y) = (e ∙ sym f, g ∙ sym h, z ∙ sym y)
        go (Batched.unfit o u e g z) (Batched.reads p n f m) = absurd (n u)
        go (Batched.reads o n e m) (Batched.not_offered p f h y) = absurd (true≢false (sym o ∙ p))
        go (Batched.reads o n e m) (Batched.unfit p v f h y) = absurd (n v)
        go (Batched.reads o n e m) (Batched.reads p k f w) =
            let (same, held) = all_one answers after told left m w in
            (e ∙ sym f, same, held)

  -- Some

  abbrev pub SomeBatched : Type 0
  SomeBatched =
      (a : Answer) × (answers : List ℕ) × (after : List ℕ)
      × Batched l c s string b before given a answers after

  module _ (part_some : PartSome l c s string) (fit : Unfit b (length given) (length before) → ⊥) where
    equal : length given ≡ answer_width * length b.starts
    equal = (fit_equal b (length given) (length before) fit).answers_equal

    -- One more document has an answer.
    some_turn : (n : ℕ) → n < length b.starts → SomeDone l c s string b before given n
        → SomeDone l c s string b before given (n + 1)
    some_turn n more f =
        let now = f.now in
        let answers = f.answers in
        let within = ends l c s string b before given fit n now answers f.done more in
        let from = get_or b.froms n 0 in
        let size = get_or b.sizes n 0 in
        let start = get_or b.starts n 0 in
        let (x, left, p, e) = part_some start (get_or b.lengths n 0) (stretch from size now) in
        let whole = e ∙ stretch_length from size now within in
        let room : answer_width * n + answer_width ≤ length answers =
        omega (arith, equal, f.done.answers_same) in
        record {
          now = _;
          answers = _;
          done = done_turn l c s string b before given fit n now answers f.done more x left whole p room;
        }

    some_done : (n : ℕ) → n ≤ length b.starts → SomeDone l c s string b before given n
    some_done zero h = record { now = before; answers = given; done = done_none l c s string b before given }
    some_done (suc n) h =
        subst (SomeDone l c s string b before given) (one_more n)
        (some_turn n (omega arith) (some_done n (omega arith)))

    some_read : is_offered c ≡ true → SomeBatched
    some_read o =
        let f = some_done (length b.starts) (omega arith) in
        let all = done_all f.done refl equal in
        (acceptance (length b.starts), f.answers, f.now, Batched.reads o fit refl all)

  pub batched_some : PartSome l c s string → SomeBatched
  batched_some part_some = go (is_offered c) refl (unfit_or_not b (length given) (length before))
    where
      go : (o : Bool) → is_offered c ≡ o → Dec (Unfit b (length given) (length before)) → SomeBatched
      go false o d = (refusal 24 0 0 0, given, zeroed before, Batched.not_offered o refl refl refl)
      go true o (yes u) = (refusal 23 0 0 0, given, zeroed before, Batched.unfit o u refl refl refl)
      go true o (no fit) = some_read part_some fit o
