-- What paper 02, request five, asks of a call for many documents: `BatchKeeps`, and that it says all that the
-- rules say of a batch; that they have an answer to every batch, and only one.
use Rattle.std.specs.Prelude.{ℕ, ◌+◌, ◌*◌, ◌<◌, ◌≤◌, ◌≡◌, refl, Bool, true, false, ◌⊎◌, ◌↔◌, List, length, get_or}
use Rattle.std.proofs.Common.{sym, ap, ◌∙◌, true≢false, inl, inr, arith}
use Rattle.std.proofs.Math.Decide.{dec_lt}
use Rattle.std.proofs.lemmas.List.{length-replicate}
use Rattle.rules.specs.Settings.{Settings, is_offered}
use Rattle.rules.specs.Bytes.{type_limit}
use Rattle.rules.specs.Lent.{Lent, zeroed}
use Rattle.rules.specs.Judge.{Answer, refusal, acceptance}
use Rattle.rules.specs.Reader.{document_refusal, ReadAs}
use Rattle.rules.specs.Calls.{answer_numbers}
use Rattle.rules.specs.Batch.{Batch, stretch, Has, Unfit, RefusesPart, PartAs, AllRead, Batched, answer_width}
use Rattle.answer_laws.specs.Reader.{given_one, given_length}
use Rattle.batch_laws.specs.Turns.{fit_equal}
use Rattle.batch_laws.specs.Fitting.{unfit_or_not}
use Rattle.batch_laws.specs.Answered.{PartOnce, PartSome, SomeBatched, batched_once, batched_some}
use Rattle.demands.specs.Exists.{read_some}

-- The stretch of the lent buffer that the i-th document has, and its answer.
abbrev pub stretch_of : Batch → (i : ℕ) → List ℕ → List ℕ
stretch_of b i xs = stretch (get_or b.froms i 0) (get_or b.sizes i 0) xs

abbrev pub answer_at : (i : ℕ) → List ℕ → List ℕ
answer_at i answers = stretch (answer_width * i) answer_width answers

-- The part of the string that is the i-th document, and where it ends.
abbrev pub part_of : Batch → (i : ℕ) → List ℕ → List ℕ
part_of b i string = stretch (get_or b.starts i 0) (get_or b.lengths i 0) string

abbrev pub part_end : Batch → (i : ℕ) → ℕ
part_end b i = get_or b.starts i 0 + get_or b.lengths i 0

-- What the rules settle of the i-th document's part, with what its stretch holds after.
abbrev pub PartOf : Lent → Settings → (s string : List ℕ) → Batch → (before after : List ℕ) (i : ℕ) → Answer
    → Type 0
PartOf l c s string b before after i x =
    PartAs l c s string (get_or b.starts i 0) (get_or b.lengths i 0) (stretch_of b i before) x
    (stretch_of b i after)

-- A call, lent `before` and `given` for the answers, answers a as a whole to the batch b of parts of the
-- string under the type file s and the settings c, and leaves `answers` and `after`.
pub record BatchKeeps (l : Lent) (c : Settings) (s string : List ℕ) (b : Batch) (before given : List ℕ)
    (a : Answer) (answers after : List ℕ) : Type 0 where
  -- "More than 200 documents, lists of unequal length, two stretches that share a number, or one that so
  -- passes the buffer's end, refuse the whole call: 23, in the type at 0, the buffer zero, before anything
  -- else"; settings that no call takes are 24, "before even 23"; nothing else refuses the whole call.
  pub accepted_exactly : (a.number ≡ 0)
      ↔ ((is_offered c ≡ true) × (Unfit b (length given) (length before) → ⊥))
  pub refused_exactly : (a.number ≡ 0 → ⊥) ↔ ((is_offered c ≡ false) ⊎ Unfit b (length given) (length before))
  pub twenty_three_exactly : (a.number ≡ 23)
      ↔ ((is_offered c ≡ true) × Unfit b (length given) (length before))
  pub twenty_four_exactly : (a.number ≡ 24) ↔ (is_offered c ≡ false)
  -- Demand 1: "on refusal the whole buffer is zero and the count is 0", under 24 as under 23, whatever the
  -- lists are. The answers are then as they were.
  pub refusal_whole : (a.number ≡ 0 → ⊥)
      → (a ≡ refusal a.number 0 0 0) × (after ≡ zeroed before) × (answers ≡ given)
  -- "An accepted call gives 0 for number, input and position, and how many records it wrote": here how many
  -- documents it has.
  pub acceptance_whole : a.number ≡ 0 → a ≡ acceptance (length b.starts)
  -- "Give for each document its own answer .. All other answers equal those of the single calls": whatever
  -- the single call answers to the part in its stretch, and leaves there.
  pub as_single : a.number ≡ 0 → (i : ℕ) → i < length b.starts → part_end b i ≤ length string
      → (x : Answer) (left : List ℕ) → ReadAs l c s (part_of b i string) (stretch_of b i before) x left
      → (answer_at i answers ≡ answer_numbers x) × (stretch_of b i after ≡ left)
  -- "A part whose start plus length passes the string's end is number 1 for that document only"; the type's 1
  -- comes before a document's.
  pub as_passing : a.number ≡ 0 → (i : ℕ) → i < length b.starts → length string < part_end b i
      → length s ≤ type_limit → (answer_at i answers ≡ answer_numbers (document_refusal 1 0))
      × (stretch_of b i after ≡ zeroed (stretch_of b i before))
  pub as_passing_long : a.number ≡ 0 → (i : ℕ) → i < length b.starts → length string < part_end b i
      → type_limit < length s → (answer_at i answers ≡ answer_numbers (refusal 1 0 0 0))
      × (stretch_of b i after ≡ zeroed (stretch_of b i before))
  -- "Each document's own given stretch of the buffer is its lent buffer; the rest stays."
  pub rest_stays : a.number ≡ 0 → (k : ℕ) → ((i : ℕ) → i < length b.starts → Has b i k → ⊥)
      → get_or after k 0 ≡ get_or before k 0
  pub same_length : length after ≡ length before
  pub answers_length : length answers ≡ length given

number : {a b : Answer} → a ≡ b → a.number ≡ b.number
number e = ap (λ (x : Answer). x.number) e

-- Two answers to a part that ends within the string.
within_one : (l : Lent) (c : Settings) (s string : List ℕ) (start size : ℕ) (before : List ℕ) (x y : Answer)
    (after left : List ℕ) → start + size ≤ length string → PartAs l c s string start size before y after
    → ReadAs l c s (stretch start size string) before x left → (y ≡ x) × (after ≡ left)
within_one l c s string start size before x y after left h (PartAs.within w r) q =
    given_one l c s (stretch start size string) before y x after left r q
within_one l c s string start size before x y after left h (PartAs.passes w r z) q = absurd (omega arith)

-- The answer to one that passes its end.
refused_short : (c : Settings) (s : List ℕ) (y : Answer) → is_offered c ≡ true → length s ≤ type_limit
    → RefusesPart c s y → y ≡ document_refusal 1 0
refused_short c s y o h (RefusesPart.not_offered p e) = absurd (true≢false (sym o ∙ p))
refused_short c s y o h (RefusesPart.type_too_long p m e) = absurd (omega arith)
refused_short c s y o h (RefusesPart.passes_end p m e) = e

refused_long : (c : Settings) (s : List ℕ) (y : Answer) → is_offered c ≡ true → type_limit < length s
    → RefusesPart c s y → y ≡ refusal 1 0 0 0
refused_long c s y o h (RefusesPart.not_offered p e) = absurd (true≢false (sym o ∙ p))
refused_long c s y o h (RefusesPart.type_too_long p m e) = e
refused_long c s y o h (RefusesPart.passes_end p m e) = absurd (omega arith)

refused_unread : (c : Settings) (s : List ℕ) (y : Answer) → is_offered c ≡ false → RefusesPart c s y
    → y ≡ refusal 24 0 0 0
refused_unread c s y o (RefusesPart.not_offered p e) = e
refused_unread c s y o (RefusesPart.type_too_long p m e) = absurd (true≢false (sym p ∙ o))
refused_unread c s y o (RefusesPart.passes_end p m e) = absurd (true≢false (sym p ∙ o))

refused_one : (c : Settings) (s : List ℕ) (x y : Answer) → RefusesPart c s x → RefusesPart c s y → x ≡ y
refused_one c s x y (RefusesPart.not_offered o e) r = e ∙ sym (refused_unread c s y o r)
refused_one c s x y (RefusesPart.type_too_long o m e) r = e ∙ sym (refused_long c s y o m r)
refused_one c s x y (RefusesPart.passes_end o m e) r = e ∙ sym (refused_short c s y o m r)

passing : (l : Lent) (c : Settings) (s string : List ℕ) (start size : ℕ) (before : List ℕ) (y : Answer)
    (after : List ℕ) → length string < start + size → PartAs l c s string start size before y after
    → RefusesPart c s y × (after ≡ zeroed before)
passing l c s string start size before y after h (PartAs.within w r) = absurd (omega arith)
passing l c s string start size before y after h (PartAs.passes w r z) = (r, z)

module _ (l : Lent) (c : Settings) (s string : List ℕ) where
  -- The rules have one answer to a part, and only one.
  part_one : PartOnce l c s string
  part_one start size part x y left other p (PartAs.within w r) =
      within_one l c s string start size part y x left other w p r
  part_one start size part x y left other p (PartAs.passes w r z) =
      let (q, e) = passing l c s string start size part x left w p in
      (refused_one c s x y q r, e ∙ sym z)

  part_some : PartSome l c s string
  part_some start size part =
      go (dec_lt (length string) (start + size)) (is_offered c) refl (dec_lt type_limit (length s))
    where
      go : Dec (length string < start + size) → (o : Bool) → is_offered c ≡ o → Dec (type_limit < length s)
          → (x : Answer) × (left : List ℕ) × PartAs l c s string start size part x left
          × (length left ≡ length part)
      go (no w) o e t =
          let (x, left, r) = read_some l c s (stretch start size string) part in
          (x, left, PartAs.within (omega arith) r, given_length r)
      go (yes w) false e t =
          let r = RefusesPart.not_offered e refl in
          (refusal 24 0 0 0, zeroed part, PartAs.passes w r refl, length-replicate (length part) 0)
      go (yes w) true e (yes t) =
          let r = RefusesPart.type_too_long e t refl in
          (refusal 1 0 0 0, zeroed part, PartAs.passes w r refl, length-replicate (length part) 0)
      go (yes w) true e (no t) =
          let r = RefusesPart.passes_end e (omega arith) refl in
          (document_refusal 1 0, zeroed part, PartAs.passes w r refl, length-replicate (length part) 0)

  pub batched_one : (b : Batch) (before given : List ℕ) (a x : Answer) (answers after told left : List ℕ)
      → Batched l c s string b before given a answers after → Batched l c s string b before given x told left
      → (a ≡ x) × (answers ≡ told) × (after ≡ left)
  batched_one b before given = batched_once l c s string b before given part_one

  pub batched_exists : (b : Batch) (before given : List ℕ) → SomeBatched l c s string b before given
  batched_exists b before given = batched_some l c s string b before given part_some

module _ (l : Lent) (c : Settings) (s string : List ℕ) (b : Batch) (before given : List ℕ) (a : Answer)
    (answers after : List ℕ) where
  abbrev Is : Type 0
  Is = Batched l c s string b before given a answers after

  abbrev Bad : Type 0
  Bad = Unfit b (length given) (length before)

  accepted_is : Is → a.number ≡ 0 → (is_offered c ≡ true) × (Bad → ⊥)
  accepted_is (Batched.not_offered o e g z) n = absurd (omega (arith, number e))
  accepted_is (Batched.unfit o u e g z) n = absurd (omega (arith, number e))
  accepted_is (Batched.reads o f e r) n = (o, f)

  accepted_of : Is → (is_offered c ≡ true) × (Bad → ⊥) → a.number ≡ 0
  accepted_of (Batched.not_offered o e g z) (p, f) = absurd (true≢false (sym p ∙ o))
  accepted_of (Batched.unfit o u e g z) (p, f) = absurd (f u)
  accepted_of (Batched.reads o f e r) w = number e

  refused_is : Is → (a.number ≡ 0 → ⊥) → (is_offered c ≡ false) ⊎ Bad
  refused_is (Batched.not_offered o e g z) h = inl o
  refused_is (Batched.unfit o u e g z) h = inr u
  refused_is (Batched.reads o f e r) h = absurd (h (number e))

  refused_of : Is → (is_offered c ≡ false) ⊎ Bad → a.number ≡ 0 → ⊥
  refused_of is (inl p) n = true≢false (sym (accepted_is is n).0 ∙ p)
  refused_of is (inr bad) n = (accepted_is is n).1 bad

  three_is : Is → a.number ≡ 23 → (is_offered c ≡ true) × Bad
  three_is (Batched.not_offered o e g z) n = absurd (omega (arith, number e))
  three_is (Batched.unfit o u e g z) n = (o, u)
  three_is (Batched.reads o f e r) n = absurd (omega (arith, number e))

  three_of : Is → (is_offered c ≡ true) × Bad → a.number ≡ 23
  three_of (Batched.not_offered o e g z) (p, bad) = absurd (true≢false (sym p ∙ o))
  three_of (Batched.unfit o u e g z) (p, bad) = number e
  three_of (Batched.reads o f e r) (p, bad) = absurd (f bad)

  four_is : Is → a.number ≡ 24 → is_offered c ≡ false
  four_is (Batched.not_offered o e g z) n = o
  four_is (Batched.unfit o u e g z) n = absurd (omega (arith, number e))
  four_is (Batched.reads o f e r) n = absurd (omega (arith, number e))

  four_of : Is → is_offered c ≡ false → a.number ≡ 24
  four_of (Batched.not_offered o e g z) p = number e
  four_of (Batched.unfit o u e g z) p = absurd (true≢false (sym o ∙ p))
  four_of (Batched.reads o f e r) p = absurd (true≢false (sym o ∙ p))

  refusal_of_lem : Is → (a.number ≡ 0 → ⊥)
      → (a ≡ refusal a.number 0 0 0) × (after ≡ zeroed before) × (answers ≡ given)
  refusal_of_lem (Batched.not_offered o e g z) n = (rw e, z, g)
  refusal_of_lem (Batched.unfit o u e g z) n = (rw e, z, g)
  refusal_of_lem (Batched.reads o f e r) n = absurd (n (number e))

  acceptance_of : Is → a.number ≡ 0
      → (a ≡ acceptance (length b.starts)) × AllRead l c s string b before answers after
  acceptance_of (Batched.not_offered o e g z) n = absurd (omega (arith, number e))
  acceptance_of (Batched.unfit o u e g z) n = absurd (omega (arith, number e))
  acceptance_of (Batched.reads o f e r) n = (e, r)

  length_of : Is → length after ≡ length before
  length_of (Batched.not_offered o e g z) = rw z (length-replicate (length before) 0)
  length_of (Batched.unfit o u e g z) = rw z (length-replicate (length before) 0)
  length_of (Batched.reads o f e r) = r.same_length

  answers_of : Is → length answers ≡ length given
  answers_of (Batched.not_offered o e g z) = ap length g
  answers_of (Batched.unfit o u e g z) = ap length g
  answers_of (Batched.reads o f e r) =
      r.answers_length ∙ sym (fit_equal b (length given) (length before) f).answers_equal

  -- One that passes the string's end, and what its stretch holds.
  passing_of : Is → a.number ≡ 0 → (i : ℕ) → i < length b.starts → length string < part_end b i
      → (y : Answer) × (answer_at i answers ≡ answer_numbers y) × RefusesPart c s y
      × (stretch_of b i after ≡ zeroed (stretch_of b i before))
  passing_of is n i h w =
      let (y, e, p) = (acceptance_of is n).1.each i h in
      let (r, z) = passing l c s string _ _ _ y _ w p in
      (y, e, r, z)

  pub batch_keeps : Is → BatchKeeps l c s string b before given a answers after
  batch_keeps is =
      record {
        accepted_exactly = (accepted_is is, accepted_of is);
        refused_exactly = (refused_is is, refused_of is);
        twenty_three_exactly = (three_is is, three_of is);
        twenty_four_exactly = (four_is is, four_of is);
        refusal_whole = refusal_of_lem is;
        acceptance_whole = λ n. (acceptance_of is n).0;
        as_single = λ n i h w x left q.
            let (y, e, p) = (acceptance_of is n).1.each i h in
            let (same, held) = within_one l c s string _ _ _ x y _ left w p q in
            (e ∙ ap answer_numbers same, held);
        as_passing = λ n i h w m.
            let (y, e, r, z) = passing_of is n i h w in
            (e ∙ ap answer_numbers (refused_short c s y (accepted_is is n).0 m r), z);
        as_passing_long = λ n i h w m.
            let (y, e, r, z) = passing_of is n i h w in
            (e ∙ ap answer_numbers (refused_long c s y (accepted_is is n).0 m r), z);
        rest_stays = λ n. (acceptance_of is n).1.rest;
        same_length = length_of is;
        answers_length = answers_of is;
      }

  -- `BatchKeeps` says no less than the rules do.
  module _ (kept : BatchKeeps l c s string b before given a answers after) where
    kept_part : a.number ≡ 0 → (i : ℕ) → i < length b.starts
        → (x : Answer) × (answer_at i answers ≡ answer_numbers x) × PartOf l c s string b before after i x
    kept_part n i h = go (dec_lt (length string) (part_end b i)) (dec_lt type_limit (length s))
      where
        o : is_offered c ≡ true
        o = (kept.accepted_exactly.0 n).0

        go : Dec (length string < part_end b i) → Dec (type_limit < length s)
            → (x : Answer) × (answer_at i answers ≡ answer_numbers x) × PartOf l c s string b before after i x
        go (no w) t =
            let (x, left, r) = read_some l c s (part_of b i string) (stretch_of b i before) in
            let (e, z) = kept.as_single n i h (omega arith) x left r in
            (x, e, PartAs.within (omega arith) (rw z r))
        go (yes w) (yes t) =
            let (e, z) = kept.as_passing_long n i h w t in
            (refusal 1 0 0 0, e, PartAs.passes w (RefusesPart.type_too_long o t refl) z)
        go (yes w) (no t) =
            let (e, z) = kept.as_passing n i h w (omega arith) in
            (document_refusal 1 0, e, PartAs.passes w (RefusesPart.passes_end o (omega arith) refl) z)

    kept_all : a.number ≡ 0 → (Bad → ⊥) → AllRead l c s string b before answers after
    kept_all n f =
        record {
          each = kept_part n;
          rest = kept.rest_stays n;
          same_length = kept.same_length;
          answers_length = kept.answers_length ∙ (fit_equal b (length given) (length before) f).answers_equal;
        }

    pub batch_kept : Is
    batch_kept = go (is_offered c) refl (unfit_or_not b (length given) (length before))
      where
        go : (t : Bool) → is_offered c ≡ t → Dec Bad → Is
        go false o d =
            let n = kept.twenty_four_exactly.1 o in
            let (e, z, g) = kept.refusal_whole (λ m. omega (arith, n, m)) in
            Batched.not_offered o (e ∙ ap (λ (m : ℕ). refusal m 0 0 0) n) g z
        go true o (yes u) =
            let n = kept.twenty_three_exactly.1 (o, u) in
            let (e, z, g) = kept.refusal_whole (λ m. omega (arith, n, m)) in
            Batched.unfit o u (e ∙ ap (λ (m : ℕ). refusal m 0 0 0) n) g z
        go true o (no f) =
            let n = kept.accepted_exactly.1 (o, f) in
            Batched.reads o f (kept.acceptance_whole n) (kept_all n f)
