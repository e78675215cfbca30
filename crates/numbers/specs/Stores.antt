-- Laws of a buffer: what one write after another leaves.
use Rattle.std.specs.Prelude.{ℕ, ◌+◌, ◌-◌, ◌*◌, ◌≤◌, ◌<◌, ◌≡◌, refl, Bool, true, false, List, [], ◌∷◌, ◌++◌}
use Rattle.std.specs.Prelude.{drop, leb}
use Rattle.std.proofs.Common.{sym, ◌∙◌, append_assoc, arith, add-one, length-append, length-drop, take-append-drop, length-take-le, take_at, drop-drop, le-leb, leb-true, leb-false}
use Rattle.std.proofs.Math.Path.{ap}
use Rattle.std.proofs.Math.ListN.{length, take, get_or}
use Rattle.std.proofs.Math.Seq.{take-suc, drop-append-add}
use Rattle.std.proofs.lemmas.Bool.{lt-leb}
use Rattle.std.specs.Int.{w32, to_le_bytes}
use Rattle.rules.specs.Lent.{Lent, numbers, bytes, bytes_of, standing, room, filled_with}
use Rattle.rules.specs.TypeFile.{Content, empty, model, Element}
use Rattle.rules.specs.Judge.{content_numbers, records, record_width}
use Rattle.rules.specs.Events.{Event, event_width}
use Rattle.rules.specs.Reader.{event_numbers}
use Rattle.numbers.specs.Written.{written, Written}

-- How many numbers records and events have.
content_length : (c : Content) → length (content_numbers c) ≡ 2
content_length empty = refl
content_length (model g ps n) = refl

pub records_length : (es : List Element) → length (records es) ≡ record_width * length es
unfolding records
records_length [] = refl
records_length (e ∷ es) = omega (arith, length-append (content_numbers e.content) (records es), content_length e.content, records_length es)

pub event_numbers_length : (ev : List Event) → length (event_numbers ev) ≡ event_width * length ev
unfolding event_numbers
event_numbers_length [] = refl
event_numbers_length (e ∷ ev) = omega (arith, event_numbers_length ev)

-- Numbers as bytes.
pub bytes_of_append : (xs ys : List ℕ) → bytes_of (xs ++ ys) ≡ bytes_of xs ++ bytes_of ys
unfolding bytes_of
bytes_of_append [] ys = refl
bytes_of_append (x ∷ xs) ys = rw (bytes_of_append xs ys)

pub bytes_of_length : (xs : List ℕ) → length (bytes_of xs) ≡ 4 * length xs
unfolding bytes_of
bytes_of_length [] = refl
bytes_of_length (x ∷ xs) = omega (arith, bytes_of_length xs)

pub bytes_size : (xs : List ℕ) (k : ℕ) → k ≤ length xs → length (bytes_of (take k xs)) ≡ 4 * k
bytes_size xs k h = bytes_of_length (take k xs) ∙ ap (λ (n : ℕ). 4 * n) (length-take-le k xs h)

-- The list with xs in place of what stood from k on.
abbrev pub spliced : List ℕ → ℕ → List ℕ → List ℕ
spliced l k xs = take k l ++ (xs ++ drop (k + length xs) l)

pub splice_none : (l : List ℕ) (k : ℕ) → spliced l k [] ≡ l
splice_none l k =
    let e : k + 0 ≡ k = omega arith in
    rw e (take-append-drop k l)

pub splice_first : (l xs : List ℕ) → spliced l 0 xs ≡ filled_with xs l
splice_first l xs =
    let e : 0 + length xs ≡ length xs = omega arith in
    rw e

module _ (l : List ℕ) (k : ℕ) (xs : List ℕ) (fits : k + length xs ≤ length l) where
  head_length : length (take k l ++ xs) ≡ k + length xs
  head_length = omega (arith, length-append (take k l) xs, length-take-le k l (omega arith))

  parted : spliced l k xs ≡ (take k l ++ xs) ++ drop (k + length xs) l
  parted = sym (append_assoc (take k l) xs (drop (k + length xs) l))

  pub splice_length : length (spliced l k xs) ≡ length l
  splice_length = omega (arith, ap length parted, length-append (take k l ++ xs) (drop (k + length xs) l), head_length, length-drop (k + length xs) l)

  -- What comes right behind makes one with it.
  module _ (ys : List ℕ) where
    front : take (k + length xs) (spliced l k xs) ≡ take k l ++ xs
    front = rw parted (take_at (take k l ++ xs) (drop (k + length xs) l) (k + length xs) head_length)

    rest : drop (k + length xs + length ys) (spliced l k xs) ≡ drop (k + length (xs ++ ys)) l
    rest =
        let e : k + length (xs ++ ys) ≡ k + length xs + length ys = omega (arith, length-append xs ys) in
        rw (parted, e)
        (rw head_length at (drop-append-add (take k l ++ xs) (drop (k + length xs) l) (length ys)) ∙ drop-drop (length ys) (k + length xs) l)

    pub splice_more : spliced (spliced l k xs) (k + length xs) ys ≡ spliced l k (xs ++ ys)
    splice_more = rw (front, rest) (simp append_assoc)

-- Numbers that fit a lent buffer leave its length.
filled_length : (xs before : List ℕ) → length xs ≤ length before → length (filled_with xs before) ≡ length before
filled_length xs before h = omega (arith, length-append xs (drop (length xs) before), length-drop (length xs) before)

pub standing_fits : (l : Lent) (xs before : List ℕ) → length xs ≤ room l before → length (standing l xs) ≤ length before
standing_fits numbers xs before h = h
standing_fits bytes xs before h = omega (arith, bytes_of_length xs)

pub lent_length : (l : Lent) (xs before : List ℕ) → length xs ≤ room l before → length (filled_with (standing l xs) before) ≡ length before
lent_length l xs before h = filled_length (standing l xs) before (standing_fits l xs before h)

-- A turn of a loop that writes: ys right behind the xs that stand from b on.
pub splice_turn : (l now xs ys : List ℕ) (b at : ℕ) → now ≡ spliced l b xs → b + length xs ≤ length l → at ≡ b + length xs → spliced now at ys ≡ spliced l b (xs ++ ys)
splice_turn l now xs ys b at e h a = rw (a, e) (splice_more l b xs h ys)

-- A write that fits, and one that does not.
pub written_fits : (l : List ℕ) (k : ℕ) (xs : List ℕ) → k + length xs ≤ length l → written l k xs ≡ spliced l k xs
unfolding written
written_fits l k xs h = rw (le-leb (k + length xs) (length l) h, written)

pub written_not : (l : List ℕ) (k : ℕ) (xs : List ℕ) → length l < k + length xs → written l k xs ≡ l
unfolding written
written_not l k xs h = rw (lt-leb (k + length xs) (length l) h, written)

pub written_length : (l : List ℕ) (k : ℕ) (xs : List ℕ) → length (written l k xs) ≡ length l
written_length l k xs = by_room (leb (k + length xs) (length l)) refl
  where
    by_room : (b : Bool) → leb (k + length xs) (length l) ≡ b → length (written l k xs) ≡ length l
    by_room true e =
        let h = leb-true (k + length xs) (length l) e in
        rw (written_fits l k xs h) (splice_length l k xs h)
    by_room false e = rw (written_not l k xs (leb-false (k + length xs) (length l) e))

pub written_keeps : (l : List ℕ) (k : ℕ) (xs : List ℕ) {after : List ℕ} → after ≡ written l k xs → length after ≡ length l
written_keeps l k xs e = ap length e ∙ written_length l k xs

-- Nothing is written yet.
pub written_none : (before : List ℕ) → Written before before []
written_none before h = refl

-- What is written right behind xs makes one with it.
pub written_more : (before l xs ys : List ℕ) → Written before l xs → Written before (written l (length xs) ys) (xs ++ ys)
written_more before l xs ys w h =
    let sizes = length-append xs ys in
    let has : length xs ≤ length before = omega arith in
    let so_far = w has ∙ sym (splice_first before xs) in
    let same : length l ≡ length before = ap length so_far ∙ splice_length before 0 xs (omega arith) in
    written_fits l (length xs) ys (omega arith)
    ∙ splice_turn before l xs ys 0 (length xs) so_far (omega arith) (omega arith)
    ∙ splice_first before (xs ++ ys)

-- A number's four bytes in place of four, low byte first.
pub number_stored : (l : List ℕ) (i x : ℕ) → i + 4 ≤ length l
    → take i l ++ (to_le_bytes w32 x ++ drop (i + 4 - i) (drop i l)) ≡ written l i (bytes_of (x ∷ []))
unfolding bytes_of
number_stored l i x h =
    let four : i + 4 - i ≡ 4 = omega arith in
    rw (four, drop-drop) (sym (written_fits l i (bytes_of (x ∷ [])) h))

-- The four bytes of the k-th number of `from` are written behind those before it, at b and on.
module _ (from l now : List ℕ) (b k at : ℕ) (is : k < length from) where
  pub bytes_turn : now ≡ spliced l b (bytes_of (take k from)) → at ≡ b + 4 * k → at + 4 ≤ length l → {after : List ℕ} → after ≡ written now at (bytes_of (get_or from k 0 ∷ [])) → after ≡ spliced l b (bytes_of (take (k + 1) from))
  unfolding bytes_of
  bytes_turn e a h w =
      let x = get_or from k 0 in
      let xs = take k from in
      let size = bytes_size from k (omega arith) in
      let same = ap length e ∙ splice_length l b (bytes_of xs) (omega arith) in
      w ∙ written_fits now at (bytes_of (x ∷ [])) (omega arith) ∙ splice_turn l now (bytes_of xs) (bytes_of (x ∷ [])) b at e (omega arith) (omega arith)
      ∙ rw (add-one k, take-suc from k 0 is, bytes_of_append xs (x ∷ []))
