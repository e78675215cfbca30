-- What a fold makes of each form of a group, as an algebra, and the pair fold as such a one. The code that is read with a stack computes it.
use Rattle.std.specs.Prelude.{ℕ, ◌≡◌, refl, Bool, true, false, ◌&&◌, ◌||◌, eqb}
use Rattle.model_sets.specs.Sets.{nullable, nullable_m, first, first_m}
use Rattle.rules.specs.Walk.{Group, place, seq, alt, opt, plus, and, Members, one, also}
use Rattle.and_laws.specs.Fold.{ends, ends_m, cross, clash, clash_m}

-- What each form makes of the values of its parts.
pub record Alg (B : Type 0) : Type 0 where
  pub at : ℕ → B
  pub then : B → B → B
  pub either : B → B → B
  pub maybe : B → B
  pub many : B → B
  -- These are for the first member, for one more, and for the whole "&" group.
  pub begin : B → B
  pub added : B → B → B
  pub close : B → B

module _ {B : Type 0} (A : Alg B) where
  abbrev mutual
    pub eval : Group → B
    eval (place n) = A.at n
    eval (seq g h) = A.then (eval g) (eval h)
    eval (alt g h) = A.either (eval g) (eval h)
    eval (opt g) = A.maybe (eval g)
    eval (plus g) = A.many (eval g)
    eval (and m) = A.close (eval_m m)

    pub eval_m : Members → B
    eval_m (one g) = A.begin (eval g)
    eval_m (also m g) = A.added (eval_m m) (eval g)

-- The pair fold: six bits a group.
pub record Six : Type 0 where
  pub null : Bool
  pub fp : Bool
  pub fq : Bool
  pub ep : Bool
  pub eq : Bool
  pub pq : Bool

abbrev pub sixes : ℕ → ℕ → Alg Six
sixes p q =
    record {
      at = λ n. record { null = false; fp = eqb n p; fq = eqb n q; ep = false; eq = false; pq = eqb n p && eqb n q };
      then = λ a b. record {
        null = a.null && b.null;
        fp = a.fp || (a.null && b.fp);
        fq = a.fq || (a.null && b.fq);
        ep = (b.null && a.ep) || b.ep;
        eq = (b.null && a.eq) || b.eq;
        pq = (a.pq || b.pq) || ((a.ep && b.fq) || (a.eq && b.fp));
      };
      either = λ a b. record {
        null = a.null || b.null;
        fp = a.fp || b.fp;
        fq = a.fq || b.fq;
        ep = (a.ep || b.ep) || ((b.null && a.fp) || (a.null && b.fp));
        eq = (a.eq || b.eq) || ((b.null && a.fq) || (a.null && b.fq));
        pq = (a.pq || b.pq) || ((a.fp && b.fq) || (a.fq && b.fp));
      };
      maybe = λ a. record { null = true; fp = a.fp; fq = a.fq; ep = a.ep || a.fp; eq = a.eq || a.fq; pq = a.pq };
      many = λ a. record { null = a.null; fp = a.fp; fq = a.fq; ep = a.ep || a.fp; eq = a.eq || a.fq; pq = a.pq || ((a.ep && a.fq) || (a.eq && a.fp)) };
      begin = λ a. a;
      added = λ a b. record {
        null = a.null && b.null;
        fp = a.fp || b.fp;
        fq = a.fq || b.fq;
        ep = a.ep || b.ep;
        eq = a.eq || b.eq;
        pq = (a.pq || b.pq) || (cross a.fp a.ep b.fq b.eq || cross a.fq a.eq b.fp b.ep);
      };
      close = λ a. a;
    }

abbrev six_of : ℕ → ℕ → Group → Six
six_of p q g = record { null = nullable g; fp = first g p; fq = first g q; ep = ends g p; eq = ends g q; pq = clash g p q }

abbrev six_of_m : ℕ → ℕ → Members → Six
six_of_m p q m = record { null = nullable_m m; fp = first_m m p; fq = first_m m q; ep = ends_m m p; eq = ends_m m q; pq = clash_m m p q }

module _ (p q : ℕ) where
  mutual
    pub six_eval : (g : Group) → eval (sixes p q) g ≡ six_of p q g
    six_eval (place n) = refl
    six_eval (seq g h) = rw (six_eval g, six_eval h)
    six_eval (alt g h) = rw (six_eval g, six_eval h)
    six_eval (opt g) = rw (six_eval g)
    six_eval (plus g) = rw (six_eval g)
    six_eval (and m) = six_eval_m m

    six_eval_m : (m : Members) → eval_m (sixes p q) m ≡ six_of_m p q m
    six_eval_m (one g) = six_eval g
    six_eval_m (also m g) = rw (six_eval_m m, six_eval g)
