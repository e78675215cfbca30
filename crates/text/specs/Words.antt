-- Laws of the rules' words: bytes, names, separators, comments and gaps.
use Rattle.std.specs.Prelude.{ℕ, Result, Ok, Err, IsErrAnd, zero, suc, ◌+◌, ◌-◌, ◌≤◌, ◌<◌, ◌≡◌, refl, Bool, true, false, not, ◌||◌, cond, List, [], ◌∷◌, length, drop, eqb, ltb}
use Rattle.std.proofs.Math.Path.{sym}
use Rattle.std.proofs.Common.{ap, ◌∙◌, true≢false, arith, add-one, add-zero, zero-add, suc-add, add_assoc, not-suc-le-zero, le_of_suc-le-suc, length-drop, drop_of_length-le, eq-eqb, eqb-true, lt-ltb, le-ltb, ltb-true, ltb-false, ne_eqb}
use Rattle.std.proofs.Math.Nat.{sub-zero}
use Rattle.std.proofs.lemmas.Bool.{not-true, not-false, eqb-false}
use Rattle.basic_laws.specs.Truth.{and_left, and_right}
use Rattle.rules.specs.Reading.{Reading, refused, got}
use Rattle.rules.specs.Bytes.{byte_at, separator, letter, name_byte, fold, span, name_end, separators_end, same_text, MDC, MINUS, PERO}
use Rattle.rules.specs.TypeFile.{at_dashes, before_dashes, gap_within, gap, comment_close, comment_declaration, is_word}
use Rattle.text.specs.Refusal.{refusal_of, reading, reached}
use Rattle.text.specs.declared.Fault.{Fault}

-- A byte above 0 stands in the input.
pub byte_in : (s : List ℕ) (i : ℕ) → 0 < byte_at s i → i < length s
byte_in [] i h = omega arith
byte_in (x ∷ xs) zero h = omega arith
byte_in (x ∷ xs) (suc i) h = omega (arith, byte_in xs i h)

pub byte_is_in : (s : List ℕ) (i b : ℕ) → byte_at s i ≡ b → 0 < b → i < length s
byte_is_in s i b e h = byte_in s i (omega arith)

-- So does a byte that passes a test which 0 fails.
pub test_in : (t : ℕ → Bool) → t 0 ≡ false → (s : List ℕ) (i : ℕ) → t (byte_at s i) ≡ true → i < length s
test_in t z [] i e = absurd (true≢false (sym e ∙ z))
test_in t z (x ∷ xs) zero e = omega arith
test_in t z (x ∷ xs) (suc i) e = omega (arith, test_in t z xs i e)

pub letter_in : (s : List ℕ) (i : ℕ) → letter (byte_at s i) ≡ true → i < length s
unfolding letter
letter_in = test_in letter refl

-- What the code's `||` leaves in its flag where its first test fails.
pub or_passed : (f g r : Bool) → f ≡ false → r ≡ g → r ≡ (f || g)
or_passed f g r e q = rw (e, q)

-- What the code's test of a byte that it read says.
pub tested : (t : ℕ → Bool) {x b : ℕ} {r v : Bool} → b ≡ x → r ≡ t b → r ≡ v → t x ≡ v
tested t e f g = cc

-- `f l` is how many bytes of l stand before the first at which `p` holds; all of them where it holds at none.
pub record Before (f : List ℕ → ℕ) (p : List ℕ → ℕ → Bool) : Type 0 where
  pub none : f [] ≡ 0
  pub found : (b : ℕ) (r : List ℕ) → p (b ∷ r) 0 ≡ true → f (b ∷ r) ≡ 0
  pub more : (b : ℕ) (r : List ℕ) → p (b ∷ r) 0 ≡ false → f (b ∷ r) ≡ suc (f r)
  pub along : (b : ℕ) (r : List ℕ) (i : ℕ) → p (b ∷ r) (suc i) ≡ p r i

module _ (f : List ℕ → ℕ) (p : List ℕ → ℕ → Bool) (F : Before f p) where
  pub found_at : (s : List ℕ) (i : ℕ) → p s i ≡ true → f (drop i s) ≡ 0
  found_at [] zero e = F.none
  found_at [] (suc i) e = F.none
  found_at (x ∷ xs) zero e = F.found x xs e
  found_at (x ∷ xs) (suc i) e = found_at xs i (sym (F.along x xs i) ∙ e)

  pub more_at : (s : List ℕ) (i : ℕ) → i < length s → p s i ≡ false → f (drop i s) ≡ suc (f (drop (suc i) s))
  more_at [] i h e = absurd (not-suc-le-zero h)
  more_at (x ∷ xs) zero h e = F.more x xs e
  more_at (x ∷ xs) (suc i) h e = more_at xs i (le_of_suc-le-suc h) (sym (F.along x xs i) ∙ e)

  past : (s : List ℕ) (i : ℕ) → length s ≤ i → f (drop i s) ≡ 0
  past s i h = rw (drop_of_length-le s h) F.none

  -- A turn of the loop that goes on while `p` does not hold, and its two ends.
  pub before_turn : (s : List ℕ) (i e : ℕ) → i < length s → p s i ≡ false → i + f (drop i s) ≡ e → i + 1 + f (drop (i + 1) s) ≡ e
  before_turn s i e h q r = rw (add-one i) (omega (arith, more_at s i h q))

  pub before_stop : (s : List ℕ) (i e : ℕ) → p s i ≡ true → i + f (drop i s) ≡ e → i ≡ e
  before_stop s i e q r = omega (arith, found_at s i q)

  pub before_all : (s : List ℕ) (i e : ℕ) → length s ≤ i → i + f (drop i s) ≡ e → i ≡ e
  before_all s i e h r = omega (arith, past s i h)

  pub before_le : (l : List ℕ) → f l ≤ length l
  before_le [] = omega (arith, F.none)
  before_le (x ∷ xs) = by_test (p (x ∷ xs) 0) refl (before_le xs)
    where
      by_test : (b : Bool) → p (x ∷ xs) 0 ≡ b → f xs ≤ length xs → f (x ∷ xs) ≤ suc (length xs)
      by_test true e h = omega (arith, F.found x xs e)
      by_test false e h = omega (arith, F.more x xs e)

  pub before_in : (s : List ℕ) (at : ℕ) → at ≤ length s → at + f (drop at s) ≤ length s
  before_in s at h = omega (arith, before_le (drop at s), length-drop at s)

  -- What stands there.
  hit : (l : List ℕ) → f l < length l → p l (f l) ≡ true
  hit [] h = absurd (not-suc-le-zero h)
  hit (x ∷ xs) h = by_test (p (x ∷ xs) 0) refl (hit xs)
    where
      by_test : (b : Bool) → p (x ∷ xs) 0 ≡ b → (f xs < length xs → p xs (f xs) ≡ true) → p (x ∷ xs) (f (x ∷ xs)) ≡ true
      by_test true e ih = rw (F.found x xs e) e
      by_test false e ih = rw (F.more x xs e) (F.along x xs (f xs) ∙ ih (omega (arith, F.more x xs e)))

  pub before_hit : (s : List ℕ) (at : ℕ) → at + f (drop at s) < length s → p s (at + f (drop at s)) ≡ true
  before_hit s zero h = rw zero-add (hit s (omega arith))
  before_hit [] (suc at) h = absurd (not-suc-le-zero h)
  before_hit (x ∷ xs) (suc at) h = rw (suc-add at (f (drop at xs))) (F.along x xs (at + f (drop at xs)) ∙ before_hit xs at (omega arith))

-- How many bytes pass a test: those before the first that does not.
pub spanned : (t : ℕ → Bool) → Before (span t) (λ s i. not (t (byte_at s i)))
unfolding span
spanned t = record {
  none = refl;
  found = λ b r e. rw (not-true (t b) e, span);
  more = λ b r e. rw (not-false (t b) e, span);
  along = λ b r i. refl;
}

module _ (t : ℕ → Bool) where
  pub span_turn : t 0 ≡ false → (s : List ℕ) (i e : ℕ) → t (byte_at s i) ≡ true → i + span t (drop i s) ≡ e → i + 1 + span t (drop (i + 1) s) ≡ e
  span_turn z s i e q r = before_turn _ _ (spanned t) s i e (test_in t z s i q) (ap not q) r

  pub span_end : (s : List ℕ) (i e : ℕ) → t (byte_at s i) ≡ false → i + span t (drop i s) ≡ e → i ≡ e
  span_end s i e q r = before_stop _ _ (spanned t) s i e (ap not q) r

  pub span_in : (s : List ℕ) (at : ℕ) → at ≤ length s → at + span t (drop at s) ≤ length s
  span_in = before_in _ _ (spanned t)

  pub span_more : t 0 ≡ false → (s : List ℕ) (at : ℕ) → t (byte_at s at) ≡ true → 0 < span t (drop at s)
  span_more z s at q = omega (arith, span_turn z s at _ q refl)

pub name_end_from : (s : List ℕ) (at : ℕ) → at ≤ name_end s at
unfolding name_end
name_end_from s at = omega arith

pub name_end_le : (s : List ℕ) (at : ℕ) → at ≤ length s → name_end s at ≤ length s
unfolding name_end
name_end_le = span_in name_byte

pub letter_name_byte : (b : ℕ) → letter b ≡ true → name_byte b ≡ true
unfolding name_byte
letter_name_byte b e = rw e

pub name_end_more : (s : List ℕ) (at : ℕ) → letter (byte_at s at) ≡ true → at < name_end s at
unfolding name_end name_byte letter
name_end_more s at e = omega (arith, span_more name_byte refl s at (letter_name_byte (byte_at s at) e))

pub separators_end_from : (s : List ℕ) (at : ℕ) → at ≤ separators_end s at
unfolding separators_end
separators_end_from s at = omega arith

pub separators_end_le : (s : List ℕ) (at : ℕ) → at ≤ length s → separators_end s at ≤ length s
unfolding separators_end
separators_end_le = span_in separator

-- A refusal at one of two places, as a test says.
pub cut_or : {A : Type 0} (b : Bool) (x y : ℕ) → ◌≡◌ {A = Reading A} (refused 4 (cond b x y)) (elim b [ true ↦ refused 4 x | false ↦ refused 4 y ])
cut_or true x y = refl
cut_or false x y = refl

-- An answer by cases and the reading that it stands for.
module _ {r : Result ℕ Fault} {x : Reading ℕ} (h : reached r ≡ x) where
  pub reached_got : {i : ℕ} → r ≡ Ok i → x ≡ got i
  reached_got q = sym h ∙ ap reached q

  pub reached_refused : {f : Fault} → r ≡ Err f → x ≡ refusal_of f
  reached_refused q = sym h ∙ ap reached q

module _ {A B : Type 0} (g : A → B) {r : Result A Fault} {x : Reading B} (h : reading g r ≡ x) where
  pub reading_got : {a : A} → r ≡ Ok a → x ≡ got (g a)
  reading_got q = sym h ∙ ap (reading g) q

  pub reading_refused : {f : Fault} → r ≡ Err f → x ≡ refusal_of f
  reading_refused q = sym h ∙ ap (reading g) q

-- A refusal that `?` passes on.
pub passed_on : {A : Type 0} {f : Fault} (r : Result A Fault) → IsErrAnd r (λ e. e ≡ f) → r ≡ Err f
passed_on (Ok _) h = elim h [ ]
passed_on (Err e) h = ap Err h

pub handed_on : {A B : Type 0} (g : A → B) {f : Fault} (r : Result A Fault) → IsErrAnd r (λ e. e ≡ f) → reading g r ≡ refusal_of f
handed_on g r h = ap (reading g) (passed_on r h)

-- Comments end with `--`.

pub before_dashes_lem : Before before_dashes at_dashes
unfolding before_dashes
before_dashes_lem = record {
  none = refl;
  found = λ b r e. rw (e, before_dashes);
  more = λ b r e. rw (e, before_dashes);
  along = λ b r i. rw (suc-add i 1);
}

-- `--` stands in the input.
pub dashes_in : (s : List ℕ) (i : ℕ) → at_dashes s i ≡ true → i + 2 ≤ length s
dashes_in s i e = omega (arith, byte_is_in s (i + 1) MINUS (eqb-true _ _ (and_right (eqb (byte_at s i) MINUS) _ e)) (omega arith))

-- Where `--` ends a comment from `at` on, it stands in the input.
pub dashes_end_in : (s : List ℕ) (at e : ℕ) → e ≡ at + before_dashes (drop at s) → e < length s → e + 2 ≤ length s
dashes_end_in s at e q h = rw q (dashes_in s _ (before_hit _ _ before_dashes_lem s at (rw q at h)))

-- Gaps are separators and comments.

-- What a gap comes to once its next separators are passed.
unfoldable pub gap_on : ℕ → List ℕ → ℕ → Reading ℕ
gap_on turns s i =
    let e = i + 2 + before_dashes (drop (i + 2) s) in
    elim (at_dashes s i) [
      | true ↦ elim (ltb e (length s)) [ true ↦ gap_within turns s (e + 2) | false ↦ refused 4 (length s) ]
      | false ↦ elim (eqb (byte_at s i) PERO) [ true ↦ refused 5 i | false ↦ got i ]
    ]

pub gap_on_lem : (turns : ℕ) (s : List ℕ) (at : ℕ) → gap_within (suc turns) s at ≡ gap_on turns s (separators_end s at)
unfolding gap_within gap_on
gap_on_lem turns s at = refl

-- Each way on: a comment that ends at e, one that does not end, a `%`, the gap's end.
pub gap_on_comment : (turns : ℕ) (s : List ℕ) (i e : ℕ) → at_dashes s i ≡ true → e ≡ i + 2 + before_dashes (drop (i + 2) s) → e < length s → gap_on turns s i ≡ gap_within turns s (e + 2)
unfolding gap_on
gap_on_comment turns s i e d q h = rw (q, d, gap_on, lt-ltb _ _ (rw q at h))

pub gap_on_open : (turns : ℕ) (s : List ℕ) (i e : ℕ) → at_dashes s i ≡ true → e ≡ i + 2 + before_dashes (drop (i + 2) s) → length s ≤ e → gap_on turns s i ≡ refused 4 (length s)
unfolding gap_on
gap_on_open turns s i e d q h = rw (d, gap_on, le-ltb _ _ (rw q at h))

pub gap_on_percent : (turns : ℕ) (s : List ℕ) (i : ℕ) → at_dashes s i ≡ false → byte_at s i ≡ PERO → gap_on turns s i ≡ refused 5 i
unfolding gap_on
gap_on_percent turns s i d q = rw (d, gap_on, eq-eqb _ _ q)

pub gap_on_end : (turns : ℕ) (s : List ℕ) (i : ℕ) → at_dashes s i ≡ false → (byte_at s i ≡ PERO → ⊥) → gap_on turns s i ≡ got i
unfolding gap_on
gap_on_end turns s i d q = rw (d, gap_on, ne_eqb _ _ q)

-- The same, whatever the turns left: on from a later place, or an end, which if it is got is here.
data Next (s : List ℕ) (i : ℕ) : Type 0 where
  on : (k : ℕ) → i < k → k ≤ length s → ((turns : ℕ) → gap_on turns s i ≡ gap_within turns s k) → Next s i
  ends : (r : Reading ℕ) → ((j : ℕ) → r ≡ got j → i ≡ j) → ((turns : ℕ) → gap_on turns s i ≡ r) → Next s i

not_got : (n p i j : ℕ) → ◌≡◌ {A = Reading ℕ} (refused n p) (got j) → i ≡ j
not_got n p i j r =
    let z : ◌≡◌ {A = ℕ} 0 1 = cc in
    omega arith

next : (s : List ℕ) (i : ℕ) → Next s i
next s i = by_dashes (at_dashes s i) refl
  where
    e : ℕ
    e = i + 2 + before_dashes (drop (i + 2) s)

    by_end : at_dashes s i ≡ true → (b : Bool) → ltb e (length s) ≡ b → Next s i
    by_end d true q =
        let h = ltb-true e (length s) q in
        on (e + 2) (omega arith) (dashes_end_in s (i + 2) e refl h) (λ turns. gap_on_comment turns s i e d refl h)
    by_end d false q = ends (refused 4 (length s)) (not_got 4 (length s) i) (λ turns. gap_on_open turns s i e d refl (ltb-false e (length s) q))

    by_percent : at_dashes s i ≡ false → (b : Bool) → eqb (byte_at s i) PERO ≡ b → Next s i
    by_percent d true q = ends (refused 5 i) (not_got 5 i i) (λ turns. gap_on_percent turns s i d (eqb-true (byte_at s i) PERO q))
    by_percent d false q = ends (got i) (λ j r. cc) (λ turns. gap_on_end turns s i d (eqb-false (byte_at s i) PERO q))

    by_dashes : (b : Bool) → at_dashes s i ≡ b → Next s i
    by_dashes true d = by_end d (ltb e (length s)) refl
    by_dashes false d = by_percent d (eqb (byte_at s i) PERO) refl

-- More turns than bytes are enough turns.
pub gap_enough : (m n : ℕ) (s : List ℕ) (at : ℕ) → length s - at < m → length s - at < n → gap_within m s at ≡ gap_within n s at
gap_enough zero n s at p q = absurd (not-suc-le-zero p)
gap_enough (suc m) zero s at p q = absurd (not-suc-le-zero q)
gap_enough (suc m) (suc n) s at p q = gap_on_lem m s at ∙ by_next (next s i) (λ k. gap_enough m n s k) ∙ sym (gap_on_lem n s at)
  where
    i : ℕ
    i = separators_end s at

    by_next : Next s i → ((k : ℕ) → length s - k < m → length s - k < n → gap_within m s k ≡ gap_within n s k) → gap_on m s i ≡ gap_on n s i
    by_next (on k h l e) ih = e m ∙ ih k (omega (arith, separators_end_from s at)) (omega (arith, separators_end_from s at)) ∙ sym (e n)
    by_next (ends r j e) ih = e m ∙ sym (e n)

within_range : (turns : ℕ) (s : List ℕ) (at j : ℕ) → at ≤ length s → gap_within turns s at ≡ got j → (at ≤ j) × (j ≤ length s)
unfolding gap_within
within_range zero s at j h r =
    let z : ◌≡◌ {A = ℕ} 0 1 = cc in
    omega arith
within_range (suc turns) s at j h r = by_next (next s i) (λ k l. within_range turns s k j l)
  where
    i : ℕ
    i = separators_end s at

    by_next : Next s i → ((k : ℕ) → k ≤ length s → gap_within turns s k ≡ got j → (k ≤ j) × (j ≤ length s)) → (at ≤ j) × (j ≤ length s)
    by_next (on k g l e) ih = omega (arith, ih k l (sym (e turns) ∙ sym (gap_on_lem turns s at) ∙ r), separators_end_from s at)
    by_next (ends a here e) ih = omega (arith, here j (sym (e turns) ∙ sym (gap_on_lem turns s at) ∙ r), separators_end_from s at, separators_end_le s at h)

pub gap_range : (s : List ℕ) (at i : ℕ) → at ≤ length s → gap s at ≡ got i → (at ≤ i) × (i ≤ length s)
unfolding gap
gap_range s at i = within_range (suc (length s)) s at i

-- The loop that passes the comments of a gap: its start, and a turn that takes a comment which ends at e.
pub gap_start : (s : List ℕ) (at : ℕ) → gap_on (length s) s (separators_end s at) ≡ gap s at
unfolding gap
gap_start s at = sym (gap_on_lem (length s) s at)

pub gap_turn : (s : List ℕ) (i e j : ℕ) → at_dashes s i ≡ true → e ≡ i + 2 + before_dashes (drop (i + 2) s) → e < length s → j ≡ separators_end s (e + 2) → gap_on (length s) s j ≡ gap_on (length s) s i
gap_turn s i e j d q h p =
    rw p (sym (gap_on_comment (length s) s i e d q h ∙ gap_enough (length s) (suc (length s)) s (e + 2) (omega arith) (omega arith) ∙ gap_on_lem (length s) s (e + 2)))

-- A gap that begins with a comment.
gap_dashes : (s : List ℕ) (at : ℕ) → at_dashes s at ≡ true → gap_on (length s) s at ≡ gap s at
unfolding separators_end separator
gap_dashes s at d =
    let b : byte_at s at ≡ MINUS = eqb-true _ _ (and_left (eqb (byte_at s at) MINUS) _ d) in
    let here : separator (byte_at s at) ≡ false = rw b in
    let stays : at ≡ separators_end s at = span_end separator s at _ here refl in
    ap (gap_on (length s) s) stays ∙ gap_start s at

-- Comment declarations are read.

-- Where the unfit byte stands, if no `>` follows the comments: behind a "-", which could only open a further one.
abbrev pub behind_dash : List ℕ → ℕ → ℕ
behind_dash s i = cond (eqb (byte_at s i) MINUS) (i + 1) i

-- Each way on from where the comments and separators end, of which the first `--` stands at `at`.
module _ (s : List ℕ) (at : ℕ) (d : at_dashes s at ≡ true) where
  pub comment_cut : (n k : ℕ) → gap_on (length s) s at ≡ refused n k → comment_declaration s at ≡ refused n k
  unfolding comment_declaration
  comment_cut n k g = rw (comment_declaration, sym (gap_dashes s at d) ∙ g)

  module _ (i : ℕ) (g : gap_on (length s) s at ≡ got i) where
    comment_on : comment_declaration s at ≡ comment_close s i
    unfolding comment_declaration
    comment_on = rw (comment_declaration, sym (gap_dashes s at d) ∙ g)

    pub comment_closed : byte_at s i ≡ MDC → comment_declaration s at ≡ got (i + 1)
    comment_closed e = comment_on ∙ rw (eq-eqb _ _ e, comment_close)

    pub comment_unfit : (byte_at s i ≡ MDC → ⊥) → comment_declaration s at ≡ refused 4 (behind_dash s i)
    comment_unfit m = comment_on ∙ rw (ne_eqb _ _ m, comment_close) (sym (cut_or (eqb (byte_at s i) MINUS) (i + 1) i))

    pub comment_inside : i ≤ length s
    comment_inside = (gap_range s at i (omega (arith, dashes_in s at d)) (sym (gap_dashes s at d) ∙ g)).1

  pub comment_range : (j : ℕ) → comment_declaration s at ≡ got j → (at < j) × (j ≤ length s)
  comment_range j r = by_gap (gap_on (length s) s at) refl
    where
      by_close : (i : ℕ) → gap_on (length s) s at ≡ got i → (b : Bool) → eqb (byte_at s i) MDC ≡ b → (at < j) × (j ≤ length s)
      by_close i g true q =
          let e = eqb-true (byte_at s i) MDC q in
          let n : i + 1 ≡ j = cc (comment_closed i g e) in
          omega (arith, gap_range s at i (omega (arith, dashes_in s at d)) (sym (gap_dashes s at d) ∙ g), byte_is_in s i MDC e (omega arith))
      by_close i g false q =
          let z : ◌≡◌ {A = ℕ} 0 1 = cc (comment_unfit i g (eqb-false (byte_at s i) MDC q)) in
          omega arith

      by_gap : (x : Reading ℕ) → gap_on (length s) s at ≡ x → (at < j) × (j ≤ length s)
      by_gap (refused n k) g =
          let z : ◌≡◌ {A = ℕ} 0 1 = cc (comment_cut n k g) in
          omega arith
      by_gap (got i) g = by_close i g (eqb (byte_at s i) MDC) refl

-- Words are compared.

module _ (s : List ℕ) (a : ℕ) (t : List ℕ) (b n : ℕ) where
  pub same_text_more : fold (byte_at s a) ≡ fold (byte_at t b) → same_text s a t b (suc n) ≡ same_text s (a + 1) t (b + 1) n
  unfolding same_text
  same_text_more e = rw (eq-eqb _ _ e, same_text)

  pub same_text_stop : (fold (byte_at s a) ≡ fold (byte_at t b) → ⊥) → same_text s a t b (suc n) ≡ false
  unfolding same_text
  same_text_stop e = rw (ne_eqb _ _ e, same_text)

  pub same_text_split : same_text s a t b (suc n) ≡ true → (fold (byte_at s a) ≡ fold (byte_at t b)) × (same_text s (a + 1) t (b + 1) n ≡ true)
  same_text_split r = by_test (eqb (fold (byte_at s a)) (fold (byte_at t b))) refl
    where
      by_test : (c : Bool) → eqb (fold (byte_at s a)) (fold (byte_at t b)) ≡ c → (fold (byte_at s a) ≡ fold (byte_at t b)) × (same_text s (a + 1) t (b + 1) n ≡ true)
      by_test true q =
          let e = eqb-true _ _ q in
          (e, sym (same_text_more e) ∙ r)
      by_test false q = absurd (true≢false (sym r ∙ same_text_stop (eqb-false _ _ q)))

pub same_text_refl : (s : List ℕ) (a n : ℕ) → same_text s a s a n ≡ true
unfolding same_text
same_text_refl s a zero = refl
same_text_refl s a (suc n) = same_text_more s a s a n refl ∙ same_text_refl s (a + 1) n

pub same_text_sym : (s : List ℕ) (a : ℕ) (t : List ℕ) (b n : ℕ) → same_text s a t b n ≡ true → same_text t b s a n ≡ true
unfolding same_text
same_text_sym s a t b zero r = refl
same_text_sym s a t b (suc n) r =
    let q = same_text_split s a t b n r in
    same_text_more t b s a n (sym q.0) ∙ same_text_sym s (a + 1) t (b + 1) n q.1

-- Two texts that are the same are so at each place.
pub same_text_at : (s : List ℕ) (a : ℕ) (t : List ℕ) (b n k : ℕ) → same_text s a t b n ≡ true → k < n → fold (byte_at s (a + k)) ≡ fold (byte_at t (b + k))
same_text_at s a t b zero k r h = absurd (not-suc-le-zero h)
same_text_at s a t b (suc n) zero r h = rw (add-zero a, add-zero b) (same_text_split s a t b n r).0
same_text_at s a t b (suc n) (suc k) r h =
    let p : a + suc k ≡ a + 1 + k = omega arith in
    let q : b + suc k ≡ b + 1 + k = omega arith in
    rw (p, q) (same_text_at s (a + 1) t (b + 1) n k (same_text_split s a t b n r).1 (le_of_suc-le-suc h))

pub same_text_first : (s : List ℕ) (a : ℕ) (t : List ℕ) (b n : ℕ) → same_text s a t b (suc n) ≡ true → fold (byte_at s a) ≡ fold (byte_at t b)
same_text_first s a t b n r = (same_text_split s a t b n r).0

pub same_text_last : (s : List ℕ) (a : ℕ) (t : List ℕ) (b n : ℕ) → same_text s a t b (suc n) ≡ true → fold (byte_at s (a + n)) ≡ fold (byte_at t (b + n))
same_text_last s a t b n r = same_text_at s a t b (suc n) n r (omega arith)

-- The loop that compares n bytes, of which k are passed: it starts, goes on, and ends in two ways.
pub same_text_start : (s : List ℕ) (a : ℕ) (t : List ℕ) (b n : ℕ) → same_text s (a + 0) t (b + 0) (n - 0) ≡ same_text s a t b n
same_text_start s a t b n = rw (add-zero a, add-zero b, sub-zero n)

pub same_text_turn : (s : List ℕ) (a : ℕ) (t : List ℕ) (b n k : ℕ) → k < n → fold (byte_at s (a + k)) ≡ fold (byte_at t (b + k))
    → same_text s (a + (k + 1)) t (b + (k + 1)) (n - (k + 1)) ≡ same_text s (a + k) t (b + k) (n - k)
same_text_turn s a t b n k h e =
    let l : n - k ≡ suc (n - (k + 1)) = omega arith in
    rw (l, ← add_assoc a k 1, ← add_assoc b k 1) (sym (same_text_more s (a + k) t (b + k) (n - (k + 1)) e))

pub same_text_other : (s : List ℕ) (a : ℕ) (t : List ℕ) (b n k : ℕ) → k < n → (fold (byte_at s (a + k)) ≡ fold (byte_at t (b + k)) → ⊥) → same_text s (a + k) t (b + k) (n - k) ≡ false
same_text_other s a t b n k h e =
    let l : n - k ≡ suc (n - (k + 1)) = omega arith in
    rw l (same_text_stop s (a + k) t (b + k) (n - (k + 1)) e)

pub same_text_all : (s : List ℕ) (a : ℕ) (t : List ℕ) (b n k : ℕ) → n ≤ k → same_text s (a + k) t (b + k) (n - k) ≡ true
unfolding same_text
same_text_all s a t b n k h =
    let l : n - k ≡ 0 = omega arith in
    rw l

-- A word of another size than was read.
pub is_word_other : (s : List ℕ) (at end : ℕ) (w : List ℕ) → (end - at ≡ length w → ⊥) → is_word s at end w ≡ false
is_word_other s at end w e = rw (ne_eqb _ _ e, is_word)
