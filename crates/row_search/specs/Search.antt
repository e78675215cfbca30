-- Laws of the search for the last place that passes a test; a search for a place that passes two tests goes over those that pass the first. The loop of the
-- search: the places that are still to be looked at give the answer.
use Rattle.std.specs.Prelude.{ℕ, zero, suc, ◌-◌, ◌≤◌, ◌<◌, ◌≡◌, refl, Bool, true, false, ◌&&◌, List}
use Rattle.std.proofs.Common.{sym, ◌∙◌, ap, subst, arith}
use Rattle.std.proofs.Math.Bool.{and-false}
use Rattle.rules.specs.Bytes.{GRPGTCNT}
use Rattle.layout.specs.Sizes.{RAISE}
use Rattle.basic_laws.specs.Truth.{and_both, bool_cases}
use Rattle.document_laws.specs.Decide.{search, search_passes}
use Rattle.row_search.specs.Rows.{link_at, Linked, Largest, LargestRaised}

pub search_most : (f : ℕ → Bool) (n : ℕ) → search f n ≤ n
unfolding search
search_most f zero = omega arith
search_most f (suc n) = bool_cases (f (suc n)) (λ x. rw (x, search) (omega arith)) (λ x. rw (x, search) (omega (arith, search_most f n)))

pub search_none : (f : ℕ → Bool) → search f 0 ≡ 0
unfolding search
search_none f = refl

pub search_hit : (f : ℕ → Bool) (p : ℕ) → 1 ≤ p → f p ≡ true → search f p ≡ p
unfolding search
search_hit f zero l x = absurd (omega arith)
search_hit f (suc p) l x = rw (x, search)

pub search_miss : (f : ℕ → Bool) (p : ℕ) → 1 ≤ p → f p ≡ false → search f p ≡ search f (p - 1)
unfolding search
search_miss f zero l x = absurd (omega arith)
search_miss f (suc p) l x = let z : suc p - 1 ≡ p = omega arith in rw (z, x, search)

pub search_both : (f g : ℕ → Bool) (n : ℕ) → search (λ p. f p && g p) n ≡ search (λ p. f p && g p) (search f n)
unfolding search
search_both f g zero = refl
search_both f g (suc n) = bool_cases (f (suc n)) (λ x. rw (x, search) (rw (x, search) refl)) (λ x. rw (x, search) (search_both f g n))

-- The loop keeps that what is left to search gives the answer.

-- The place q is one of the linked ones or 0, and the search from it gives what the search from n gives.
pub record Left (places : List ℕ) (e n q : ℕ) (f next : ℕ → Bool) : Type 0 where
  pub named : 1 ≤ q → f q ≡ true
  pub still : search (λ p. f p && next p) n ≡ search (λ p. f p && next p) q

pub record Seeks (Says : ℕ → Bool → Type 0) (places : List ℕ) (e n q : ℕ) : Type 0 where
  pub within : q ≤ n
  pub left : (f next : ℕ → Bool) → Linked places e f n → ((p : ℕ) (b : Bool) → 1 ≤ p → p ≤ n → Says p b → b ≡ next p) → Left places e n q f next

module _ (Says : ℕ → Bool → Type 0) (places : List ℕ) (e n : ℕ) where
  pub seeks_start : Seeks Says places e n n
  seeks_start = record { within = omega arith; left = λ f next linked says. record { named = linked.last; still = refl } }

  module _ (q : ℕ) (seeks : Seeks Says places e n q) where
    pub seeks_none : q ≡ 0 → Largest Says places e n 0
    seeks_none z = record { small = omega arith; finds = λ f next linked says. sym ((seeks.left f next linked says).still ∙ ap (search (λ p. f p && next p)) z ∙ search_none (λ p. f p && next p)) }

    module _ (some : q ≡ 0 → ⊥) where
      pub seeks_found : q ≤ GRPGTCNT → Says q true → Largest Says places e n q
      seeks_found few s =
          record {
            small = few;
            finds =
                λ f next linked says.
                let left = seeks.left f next linked says in
                sym (left.still ∙ search_hit (λ p. f p && next p) q (omega arith) (and_both (left.named (omega arith)) (sym (says q true (omega arith) seeks.within s))));
          }

      link_is : (f next : ℕ → Bool) → Linked places e f n → Left places e n q f next → link_at places e q ≡ search f (q - 1)
      link_is f next linked left = linked.below q (omega arith) seeks.within (left.named (omega arith))

      -- In no type does a link rise.
      pub seeks_rising : (r : ℕ) → r ≡ link_at places e q → q ≤ r → Largest Says places e n 0
      seeks_rising r z l = record { small = omega arith; finds = λ f next linked says. absurd (omega (arith, link_is f next linked (seeks.left f next linked says), search_most f (q - 1))) }

      pub seeks_next : Says q false → (r : ℕ) → r ≡ link_at places e q → r < q → Seeks Says places e n r
      seeks_next s r z l =
          record {
            within = omega (arith, seeks.within);
            left =
                λ f next linked says.
                let left = seeks.left f next linked says in
                let link : r ≡ search f (q - 1) = z ∙ link_is f next linked left in
                let misses : f q && next q ≡ false = ap (λ (b : Bool). f q && b) (sym (says q false (omega arith) seeks.within s)) ∙ and-false (f q) in
                record {
                  named = λ h. subst (λ (x : ℕ). f x ≡ true) (sym link) (search_passes f (q - 1) (omega arith));
                  still = left.still ∙ search_miss (λ p. f p && next p) q (omega arith) misses ∙ search_both f next (q - 1) ∙ ap (search (λ p. f p && next p)) (sym link);
                };
          }

-- What is said of each place may be said otherwise.
pub largest_said : {Told Says : ℕ → Bool → Type 0} {places : List ℕ} {e n r : ℕ} → ((q : ℕ) (b : Bool) → q ≤ n → Told q b → Says q b) → Largest Told places e n r → Largest Says places e n r
largest_said told w = record { small = w.small; finds = λ f next linked says. w.finds f next linked (λ q b l m t. says q b l m (told q b m t)) }

-- A number that is raised is lowered before the search.
module _ (Says : ℕ → Bool → Type 0) (places : List ℕ) (e p : ℕ) where
  pub raised_low : p < RAISE → LargestRaised Says places e p 0
  raised_low l = record { small = omega arith; finds = λ n z few. absurd (omega arith) }

  pub raised_high : GRPGTCNT < p - RAISE → LargestRaised Says places e p 0
  raised_high l = record { small = omega arith; finds = λ n z few. absurd (omega arith) }

  pub raised_from : (r : ℕ) → RAISE ≤ p → Largest Says places e (p - RAISE) r → LargestRaised Says places e p r
  raised_from r l found = record { small = found.small; finds = λ n z few. let d : p - RAISE ≡ n = omega arith in subst (λ (m : ℕ). Largest Says places e m r) d found }
