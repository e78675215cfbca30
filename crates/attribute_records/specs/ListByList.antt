-- Laws of the records of attributes in lent buffers, list after list, and of what is decided.
use Rattle.std.specs.Prelude.{ℕ, ◌+◌, ◌-◌, ◌*◌, ◌≤◌, ◌<◌, ◌≡◌, refl, List, [], ◌∷◌, ◌++◌, length, take, drop}
use Rattle.std.proofs.Common.{sym, ap, ◌∙◌, append_assoc, append-nil, arith, length-append, length-drop, drop_of_length-le, drop-drop, take_all, length-take-le}
use Rattle.rules.specs.Lent.{bytes_of, filled_with}
use Rattle.rules.specs.Attributes.{Attribute}
use Rattle.rules.specs.TypeFile.{Element}
use Rattle.rules.specs.Elements.{element_at}
use Rattle.rules.specs.Listing.{attribute_numbers, attribute_width, list_numbers, attribute_count}
use Rattle.layout.specs.Sizes.{ATTRIBUTE, LIST}
use Rattle.numbers.specs.Written.{written}
use Rattle.numbers.specs.Stores.{bytes_of_append, bytes_of_length, written_fits, written_not, written_keeps, written_none, written_more}
use Rattle.list_table.specs.declared.Row.{Row}
use Rattle.list_table.specs.Lists.{row_in, ListAt, Lists}
use Rattle.attribute_records.specs.Recorded.{row_numbers, Holds, Puts, PutsList, PutsLists}
use Rattle.attribute_records.specs.Numbers.{numbers_length, numbers_more, lists_length, lists_more, count_more}

-- Nine numbers, each as it should be.
pub nine_are : {e a n z k d l m v k' d' l' m' v' : ℕ} → k ≡ k' → d ≡ d' → l ≡ l' → m ≡ m' → v ≡ v' → e ∷ a ∷ n ∷ z ∷ k ∷ d ∷ l ∷ m ∷ v ∷ [] ≡ e ∷ a ∷ n ∷ z ∷ k' ∷ d' ∷ l' ∷ m' ∷ v' ∷ []
nine_are p q r t u = rw (p, q, r, t, u)

-- The bytes of a record, put over as many others.
pub bytes_filled : (xs zs : List ℕ) {ys : List ℕ} → length xs ≡ attribute_width → length zs ≡ 4 * attribute_width
    → ys ≡ filled_with (bytes_of (take attribute_width xs)) zs → ys ≡ bytes_of xs
bytes_filled xs zs e n p =
    let all = take_all attribute_width xs (omega arith) in
    let size = bytes_of_length xs in
    let none : drop (length (bytes_of xs)) zs ≡ [] = drop_of_length-le zs {i = length (bytes_of xs)} (omega arith) in
    p ∙ rw (all, none) (append-nil (bytes_of xs))

-- Nothing is put, a record is put, and what is put behind what was put makes one with it.
pub none_put : (l m : List ℕ) (n : ℕ) → Puts l m n [] l m
none_put l m n =
    record {
      numbers_kept = refl;
      bytes_kept = refl;
      behind = λ l₀ m₀ before c w. rw (append-nil before) w;
    }

module _ (numbers bytes : List ℕ) (n : ℕ) (xs : List ℕ) where
  pub puts_record : {row numbers' bytes' : List ℕ} → row ≡ xs → numbers' ≡ written numbers (attribute_width * n) row → bytes' ≡ written bytes (4 * attribute_width * n) (bytes_of row) → Puts numbers bytes n xs numbers' bytes'
  puts_record {numbers' = numbers'} {bytes'} i v w = puts_xs (rw i at v) (rw i at w)
    where
      puts_xs : numbers' ≡ written numbers (attribute_width * n) xs → bytes' ≡ written bytes (4 * attribute_width * n) (bytes_of xs) → Puts numbers bytes n xs numbers' bytes'
      puts_xs e f =
          let same = written_keeps numbers (attribute_width * n) xs e in
          let same_bytes = written_keeps bytes (4 * attribute_width * n) (bytes_of xs) f in
          record {
            numbers_kept = same;
            bytes_kept = same_bytes;
            behind = λ l m before c w.
                let b : 4 * attribute_width * n ≡ length (bytes_of before) = omega (arith, c, bytes_of_length before) in
                record {
                  numbers_kept = same ∙ w.numbers_kept;
                  bytes_kept = same_bytes ∙ w.bytes_kept;
                  numbers_hold = rw (e, c) (written_more l numbers before xs w.numbers_hold);
                  bytes_hold = rw (f, b, bytes_of_append before xs) (written_more m bytes (bytes_of before) (bytes_of xs) w.bytes_hold);
                };
          }

pub puts_then : {a b a' b' a'' b'' : List ℕ} {n m : ℕ} {xs ys : List ℕ} → Puts a b n xs a' b' → attribute_width * m ≡ attribute_width * n + length xs → Puts a' b' m ys a'' b'' → Puts a b n (xs ++ ys) a'' b''
puts_then {n = n} {m} {xs} {ys} p e q =
    record {
      numbers_kept = q.numbers_kept ∙ p.numbers_kept;
      bytes_kept = q.bytes_kept ∙ p.bytes_kept;
      behind = λ l k before c w.
          let sizes = length-append before xs in
          rw (sym (append_assoc before xs ys)) (q.behind l k (before ++ xs) (omega arith) (p.behind l k before c w));
    }

-- A list is put, record by record: the first a of them.
pub record ListSoFar (lists : List ℕ) (e : ℕ) (numbers bytes : List ℕ) (n : ℕ) (numbers' bytes' : List ℕ) (a : ℕ) : Type 0 where
  pub numbers_kept : length numbers' ≡ length numbers
  pub bytes_kept : length bytes' ≡ length bytes
  pub puts : (long : ℕ) (s : List ℕ) (xs : List Attribute) → ListAt long s lists (LIST * (e - 1)) xs → a ≤ length xs → Puts numbers bytes n (attribute_numbers e 1 (take a xs)) numbers' bytes'

module _ (lists : List ℕ) (e : ℕ) (numbers bytes : List ℕ) (n : ℕ) where
  pub list_first : ListSoFar lists e numbers bytes n numbers bytes 0
  unfolding attribute_numbers
  list_first = record { numbers_kept = refl; bytes_kept = refl; puts = λ long s xs l h. none_put numbers bytes n }

  module _ {now now_bytes : List ℕ} {a : ℕ} (w : ListSoFar lists e numbers bytes n now now_bytes a) where
    pub list_turn : (r : Row) {next next_bytes : List ℕ} → r ≡ row_in lists (LIST * (e - 1) + 1 + ATTRIBUTE * a) → Puts now now_bytes (n + a) (row_numbers e (a + 1) r) next next_bytes
        → ListSoFar lists e numbers bytes n next next_bytes (a + 1)
    list_turn r {next} {next_bytes} i p =
        record {
          numbers_kept = p.numbers_kept ∙ w.numbers_kept;
          bytes_kept = p.bytes_kept ∙ w.bytes_kept;
          puts = λ long s xs l h.
              let so_far = w.puts long s xs l (omega arith) in
              let few = numbers_length e 1 (take a xs) in
              let size = length-take-le a xs (omega arith) in
              let more = numbers_more long s e a r xs (omega arith) (rw i (l.rows a (omega arith))) in
              rw more (puts_then so_far (omega arith) p);
        }

    pub list_end : {count : ℕ} → ((long : ℕ) (s : List ℕ) (xs : List Attribute) → 1 ≤ e → ListAt long s lists (LIST * (e - 1)) xs → count ≡ length xs) → 1 ≤ e → a ≤ count → count ≤ a → PutsList lists e numbers bytes n now now_bytes (n + count)
    list_end {count} counted h i j long s xs l =
        let size = counted long s xs h l in
        (omega arith, rw (take_all a xs (omega arith)) at (w.puts long s xs l (omega arith)))

-- All lists are put, one after another: those of the first k elements, m records.
pub record ListsSoFar (lists numbers bytes numbers' bytes' : List ℕ) (k m : ℕ) : Type 0 where
  pub numbers_kept : length numbers' ≡ length numbers
  pub bytes_kept : length bytes' ≡ length bytes
  pub counted : (long : ℕ) (s : List ℕ) (es : List Element) → Lists long s es lists → k ≤ length es → m ≡ attribute_count (take k es)
  pub holds : (long : ℕ) (s : List ℕ) (es : List Element) → Lists long s es lists → k ≤ length es → Holds numbers bytes numbers' bytes' (list_numbers 1 (take k es))

module _ (lists numbers bytes : List ℕ) where
  pub lists_first : ListsSoFar lists numbers bytes numbers bytes 0 0
  unfolding attribute_count list_numbers bytes_of
  lists_first =
      record {
        numbers_kept = refl;
        bytes_kept = refl;
        counted = λ long s es l h. refl;
        holds = λ long s es l h. record { numbers_kept = refl; bytes_kept = refl; numbers_hold = written_none numbers; bytes_hold = written_none bytes };
      }

  module _ {now now_bytes : List ℕ} {k m : ℕ} (w : ListsSoFar lists numbers bytes now now_bytes k m) where
    pub lists_turn : {next next_bytes : List ℕ} {r : ℕ} → length next ≡ length now → length next_bytes ≡ length now_bytes → PutsList lists (k + 1) now now_bytes m next next_bytes r → ListsSoFar lists numbers bytes next next_bytes (k + 1) r
    lists_turn {next} {next_bytes} {r} same same_bytes p =
        record {
          numbers_kept = same ∙ w.numbers_kept;
          bytes_kept = same_bytes ∙ w.bytes_kept;
          counted = λ long s es l h. (put long s es l h).0 ∙ rw (count_more es k (omega arith)) (ap (λ (n : ℕ). n + length (element_at es k).attributes) (w.counted long s es l (omega arith)));
          holds = λ long s es l h.
              let n = lists_length 1 (take k es) in
              let t = w.counted long s es l (omega arith) in
              rw (lists_more es k (omega arith)) ((put long s es l h).1.behind numbers bytes (list_numbers 1 (take k es)) (omega arith) (w.holds long s es l (omega arith)));
        }
      where
        put : (long : ℕ) (s : List ℕ) (es : List Element) → Lists long s es lists → k + 1 ≤ length es → (r ≡ m + length (element_at es k).attributes) × Puts now now_bytes m (attribute_numbers (k + 1) 1 (element_at es k).attributes) next next_bytes
        put long s es l h =
            let z : LIST * (k + 1 - 1) ≡ LIST * k = omega arith in
            p long s (element_at es k).attributes (rw z (l k (omega arith)))

    pub lists_end : {n : ℕ} → k ≤ n → n ≤ k → PutsLists lists n numbers bytes now now_bytes m
    lists_end {n} i j long s es e l =
        let all = take_all k es (omega arith) in
        (w.counted long s es l (omega arith) ∙ ap attribute_count all, rw all at (w.holds long s es l (omega arith)))
