-- Laws of model groups: what may stand in one, what follows a content token, and what is kept of the members so far.
use Rattle.std.specs.Prelude.{ℕ, zero, suc, ◌+◌, ◌-◌, ◌*◌, ◌≤◌, ◌<◌, ◌≡◌, refl, Result, Ok, Err, Bool, true, false, ◌&&◌, ◌||◌, List, [], ◌∷◌, ◌++◌, length, eqb, leb}
use Rattle.std.proofs.Common.{sym, ap, subst, ◌∙◌, true≢false, arith}
use borrow.Author.Tests.{eq-eqb, ne_eqb, eqb-true, le-leb, leb-false}
use Rattle.model_code.specs.Codes.{AND_CODE}
use Rattle.rules.specs.Bytes.{byte_at, letter, separators_end, GRPCNT, GRPGTCNT, AND, DSO, GRPC, GRPO, PERO, RNI}
use Rattle.rules.specs.Reading.{Reading, refused, got, and_then}
use Rattle.rules.specs.Walk.{Group}
use Rattle.rules.specs.TypeFile.{Place, Tokens, Further, closed, joined, occurrence, name_token, data_token, token, is_connector, members_of, join_tokens, further, members, group}
use Rattle.text.specs.declared.Fault.{Fault}
use Rattle.text.specs.Refusal.{fault_at}
use Rattle.text.specs.declared.Refusal.TheVariants.{Malformed, LeftOut}
use Rattle.text.specs.Words.{byte_is_in}
use Rattle.basic_laws.specs.Truth.{and_left, and_right, bool_cases}
use Rattle.model_sets.specs.Sets.{size}
use Rattle.model_code.specs.Six.{put_code, code_next}
use Rattle.model_code.specs.Spelled.{codes, codes_m}
use Rattle.model_names.specs.Places.{places_of}
use Rattle.rules_laws.specs.Groups.{further_room}
use Rattle.layout.specs.Sizes.{POSITIONS}
use Rattle.connectors.specs.declared.Model.{Model}
use Rattle.connectors.specs.Kept.{Begun, begun, Ready, Tabled, spelt, Joins, Keeps, join_model, join_table}
use Rattle.connectors.specs.Grown.{ready_more, tabled_less, tabled_put, grouped, gone_on, keeps_on, keeps_less, last_place}
use Rattle.connectors.specs.Joined.{join_kept}
use Rattle.content_tokens.specs.Meets.{Refuses, Meets}
use Rattle.content_tokens.specs.Readings.{read_got, refused_is, got_meets, refuses, refuses_on}
use Rattle.group_reader.specs.declared.Next.{Next}
use Rattle.group_reader.specs.declared.Next.TheVariants.{Closed, Joined}
use Rattle.group_reader.specs.Further.{before_end, MeetsFurther, closed_table, closed_code}

-- Two tests of which one is to hold.

pub or_other : (f : Bool) (n : ℕ) (r : Bool) → r ≡ (f || leb GRPGTCNT n) → r ≡ false → n < GRPGTCNT
or_other true n r e q = absurd (true≢false (sym e ∙ q))
or_other false n r e q = leb-false GRPGTCNT n (sym e ∙ q)

-- A connector is a byte of the input.
pub connector_in : (s : List ℕ) (i b joint : ℕ) (y : Bool) → b ≡ byte_at s i → y ≡ (is_connector b && (eqb joint 0 || eqb joint b)) → y ≡ true → i < length s
connector_in s i zero joint y B Y e = absurd (true≢false (sym e ∙ Y))
connector_in s i (suc b) joint y B Y e = byte_is_in s i (suc b) (sym B) (omega arith)

-- An answer on what follows and the reading that it stands for.

module _ (end : ℕ) (B : Begun) (k : ℕ) (names table : List ℕ) where
  pub closed_got : (m : Model) (x : Reading Further) → MeetsFurther end B k names table (Ok (Closed m)) x → (t : Tokens) × (x ≡ got (closed t)) × Keeps end B 1 0 names table m t
  closed_got m (refused n p) h = absurd h
  closed_got m (got (closed t)) h = (t, refl, h)
  closed_got m (got (joined b t)) h = absurd h

  pub joined_got : (joint : ℕ) (m : Model) (x : Reading Further) → MeetsFurther end B k names table (Ok (Joined joint m)) x → (t : Tokens) × (x ≡ got (joined joint t)) × Keeps end (before_end B) (k + 1) joint names table m t
  joined_got joint m (refused n p) h = absurd h
  joined_got joint m (got (closed t)) h = absurd h
  joined_got joint m (got (joined b t)) h = (t, ap (λ (d : ℕ). got (joined d t)) (sym h.0), subst (λ (d : ℕ). Keeps end (before_end B) (k + 1) d names table m t) (sym h.0) h.1)

  closed_meets : (m : Model) (x : Reading Further) (t : Tokens) → x ≡ got (closed t) → Keeps end B 1 0 names table m t → MeetsFurther end B k names table (Ok (Closed m)) x
  closed_meets m x t q h = rw q h

  joined_meets : (b : ℕ) (m : Model) (x : Reading Further) (t : Tokens) → x ≡ got (joined b t) → Keeps end (before_end B) (k + 1) b names table m t → MeetsFurther end B k names table (Ok (Joined b m)) x
  joined_meets b m x t q h = rw q (refl, h)

-- A content token is read.

module _ (long : ℕ) (inner : ℕ → List Place → ℕ → Reading Tokens) (s : List ℕ) (at b : ℕ) (full l : Bool) (ps : List Place) (n : ℕ) (B : b ≡ byte_at s at) (L : l ≡ letter b) where
  pub token_name_lem : l ≡ true → token long inner s at full ps n ≡ name_token long s at full ps n
  unfolding token
  token_name_lem p = rw (← B, ← L, p, token)

  pub token_data : l ≡ false → b ≡ RNI → token long inner s at full ps n ≡ data_token s at full ps n
  unfolding token
  token_data p q = rw (← B, ← L, p, ← B, eq-eqb _ _ q, token)

  module _ (p : l ≡ false) (q : b ≡ RNI → ⊥) where
    pub token_full : b ≡ GRPO → full ≡ true → token long inner s at full ps n ≡ refused 6 at
    unfolding token
    token_full r f = rw (← B, ← L, p, ← B, ne_eqb _ _ q, ← B, eq-eqb _ _ r, f, token)

    pub token_group_lem : b ≡ GRPO → full ≡ false → token long inner s at full ps n ≡ and_then (inner at ps (n + 1)) (λ t. got (occurrence s t))
    unfolding token
    token_group_lem r f = rw (← B, ← L, p, ← B, ne_eqb _ _ q, ← B, eq-eqb _ _ r, f, token)

    pub token_unfit : (b ≡ GRPO → ⊥) → (eqb b DSO || eqb b PERO) ≡ true → token long inner s at full ps n ≡ refused 5 at
    unfolding token
    token_unfit r f = rw (← B, ← L, p, ← B, ne_eqb _ _ q, ← B, ne_eqb _ _ r, ← B, f, token)

    pub token_other : (b ≡ GRPO → ⊥) → (eqb b DSO || eqb b PERO) ≡ false → token long inner s at full ps n ≡ refused 4 at
    unfolding token
    token_other r f = rw (← B, ← L, p, ← B, ne_eqb _ _ q, ← B, ne_eqb _ _ r, ← B, f, token)

-- What follows a content token.

abbrev joins : (k b i : ℕ) → Tokens → Tokens → Reading Further
joins k b i t u = got (joined b (join_tokens k b i t u))

module _ (long : ℕ) (inner : ℕ → List Place → ℕ → Reading Tokens) (s : List ℕ) (k joint : ℕ) (t : Tokens) (i b : ℕ) (I : i ≡ separators_end s t.at) (B : b ≡ byte_at s i) where
  pub further_closed : b ≡ GRPC → further long inner s k joint t ≡ got (closed (grouped t.group (i + 1) t.repeated t))
  unfolding further
  further_closed p = rw (← I, ← B, eq-eqb _ _ p, further, I)

  module _ (p : b ≡ GRPC → ⊥) where
    pub further_unfit : b ≡ PERO → further long inner s k joint t ≡ refused 5 i
    unfolding further
    further_unfit q = rw (← I, ← B, ne_eqb _ _ p, ← I, ← B, eq-eqb _ _ q, further, I)

    module _ (q : b ≡ PERO → ⊥) where
      pub further_other : (is_connector b && (eqb joint 0 || eqb joint b)) ≡ false → further long inner s k joint t ≡ refused 4 i
      unfolding further
      further_other r = rw (← I, ← B, ne_eqb _ _ p, ← I, ← B, ne_eqb _ _ q, ← I, ← B, r, further, I)

      pub further_on : (is_connector b && (eqb joint 0 || eqb joint b)) ≡ true
          → further long inner s k joint t ≡ and_then (token long inner s (separators_end s (i + 1)) (leb GRPCNT k || leb GRPGTCNT t.tokens) t.places t.tokens) (joins k b i t)
      unfolding further
      further_on r = rw (← I, ← B, ne_eqb _ _ p, ← I, ← B, ne_eqb _ _ q, ← I, ← B, r, further, B, I)

-- The members of a group, from the one after the k-th on; there are `GRPCNT` + 1 - k at most.

module _ (long : ℕ) (inner : ℕ → List Place → ℕ → Reading Tokens) (s : List ℕ) (k joint : ℕ) (t : Tokens) (h : k ≤ GRPCNT) where
  left : (GRPCNT + 1) - k ≡ suc ((GRPCNT + 1) - (k + 1))
  left = omega arith

  pub members_closed : (u : Tokens) → further long inner s k joint t ≡ got (closed u) → members long inner s ((GRPCNT + 1) - k) k joint t ≡ got u
  unfolding members
  members_closed u e = rw (left, members, e)

  pub members_joined : (b : ℕ) (u : Tokens) → further long inner s k joint t ≡ got (joined b u) → members long inner s ((GRPCNT + 1) - k) k joint t ≡ members long inner s ((GRPCNT + 1) - (k + 1)) (k + 1) b u
  unfolding members
  members_joined b u e = rw (left, e)

  pub members_refused : (n p : ℕ) → further long inner s k joint t ≡ refused n p → members long inner s ((GRPCNT + 1) - k) k joint t ≡ refused n p
  unfolding members
  members_refused n p e = rw (left, members, e)

-- A group is read.

pub group_none : (long : ℕ) (levels : ℕ) (s : List ℕ) (at : ℕ) (ps : List Place) (n : ℕ) → levels ≡ 0 → group long levels s at ps n ≡ refused 6 at
unfolding group
group_none long levels s at ps n e = rw e

pub group_some : (long : ℕ) (levels : ℕ) (s : List ℕ) (at i : ℕ) (ps : List Place) (n : ℕ) → (levels ≡ 0 → ⊥) → i ≡ separators_end s (at + 1)
    → group long levels s at ps n ≡ and_then (token long (group long (levels - 1) s) s i (leb GRPGTCNT n) ps n) (members long (group long (levels - 1) s) s GRPCNT 1 0)
unfolding group
group_some long zero s at i ps n h I = absurd (h refl)
group_some long (suc levels) s at i ps n h I =
    let e : suc levels - 1 ≡ levels = omega arith in
    rw (e, I)

-- A group whose first token was read.
pub group_begun : (long : ℕ) (levels : ℕ) (s : List ℕ) (at i : ℕ) (ps : List Place) (n lo : ℕ) (T : List ℕ) (code : ℕ) (names table : List ℕ) (m : Model)
    → Meets (length s) (begun lo T code (4 * n + 3)) names table (Ok m) (token long (group long (levels - 1) s) s i (leb GRPGTCNT n) ps n) → (levels ≡ 0 → ⊥) → i ≡ separators_end s (at + 1)
    → (t : Tokens) × Keeps (length s) (begun lo T code (4 * n + 2 + 1)) 1 0 names table m t × (group long levels s at ps n ≡ members long (group long (levels - 1) s) s GRPCNT 1 0 t)
group_begun long levels s at i ps n lo T code names table m M h I =
    let x : Reading Tokens = token long (group long (levels - 1) s) s i (leb GRPGTCNT n) ps n in
    let w = read_got (length s) _ names table m x M in
    (w.0, keeps_less (length s) lo T code (4 * n + 3) (4 * n + 2 + 1) 1 0 names table m w.0 (omega arith) w.2, group_some long levels s at i ps n h I ∙ ap (λ (x : Reading Tokens). and_then x (members long (group long (levels - 1) s) s GRPCNT 1 0)) w.1)

-- The end of a group: the code of an "&" group says how many members it has.
closed_tabled : (lo : ℕ) (T : List ℕ) (n d k joint : ℕ) (g : Group) (τ c c' : ℕ) (table table' : List ℕ) → Joins k joint g → lo + size g ≤ POSITIONS → τ ≤ GRPGTCNT
    → Ready (begun lo T n d) → table' ≡ closed_table k joint c table → c' ≡ closed_code k joint c
    → Tabled (begun lo T n (d + 1)) g (spelt joint g) τ table c → Tabled (begun lo T n d) g (codes g) τ table' c'
closed_tabled lo T n d k joint g τ c c' table table' j to few ready a b x =
    bool_cases (eqb joint AND)
    (λ y.
    let z = eqb-true joint AND y in
    let own : codes_m (members_of g) ++ (AND_CODE + k) ∷ [] ≡ codes g =
    ap (λ (m : ℕ). codes_m (members_of g) ++ (AND_CODE + m) ∷ []) (sym (j.members z)) ∙ sym (ap codes (j.whole z)) in
    rw (a, b, y, le-leb k GRPCNT j.few)
    (subst (λ (os : List ℕ). Tabled (begun lo T n d) g os τ (put_code table c (AND_CODE + k)) (code_next c)) own
    (tabled_put lo T n d τ c (AND_CODE + k) g (codes_m (members_of g)) table ready to few x.filled (rw y at x.code_holds) x.room)))
    (λ y. rw (a, b, y) (tabled_less lo T n (omega arith) (rw y at x)))

-- What follows, when m is kept of t and the byte b stands at i.

module _ (long : ℕ) (inner : ℕ → List Place → ℕ → Reading Tokens) (s : List ℕ) (lo k joint : ℕ) (T : List ℕ) (n d : ℕ) (names table : List ℕ) (m : Model) (t : Tokens)
    (K : Keeps (length s) (begun lo T n (d + 1)) k joint names table m t) (i b : ℕ) (I : i ≡ separators_end s m.at) (B : b ≡ byte_at s i) where
  here : i ≡ separators_end s t.at
  here = I ∙ ap (separators_end s) K.at

  pub next_closed : (table' : List ℕ) (e : ℕ) → b ≡ GRPC → table' ≡ closed_table k joint m.code table → e ≡ closed_code k joint m.code
      → MeetsFurther (length s) (begun lo T n d) k names table' (Ok (Closed (gone_on m (i + 1) m.part e m.repeated))) (further long inner s k joint t)
  next_closed table' e p f g =
      closed_meets _ (begun lo T n d) k names table' _ _ _ (further_closed long inner s k joint t i b here B p)
      (keeps_on _ lo T n (d + 1) k joint names table table' m t K d t.group (i + 1) (i + 1) m.part e _ _ refl (omega (arith, byte_is_in s i GRPC (sym B ∙ p) (omega arith))) K.part K.repeated_at
      (λ ready.
      closed_tabled lo T n d k joint t.group t.tokens m.code e table table' K.joins (last_place _ lo T n (d + 1) k joint names table table' m t K) K.tokens_in_lem ready f g
      (K.tabled (ready_more lo T n (omega arith) ready)))
      K.numbered refl)

  module _ (p : b ≡ GRPC → ⊥) where
    pub next_unfit : {f : Fault} → f ≡ fault_at LeftOut i → b ≡ PERO → Refuses f (further long inner s k joint t)
    next_unfit e q = refuses _ e (further_unfit long inner s k joint t i b here B p q)

    module _ (q : b ≡ PERO → ⊥) (y : Bool) (Y : y ≡ (is_connector b && (eqb joint 0 || eqb joint b))) where
      pub next_other : {f : Fault} → f ≡ fault_at Malformed i → y ≡ false → Refuses f (further long inner s k joint t)
      next_other e r = refuses _ e (further_other long inner s k joint t i b here B p q (sym Y ∙ r))

      module _ (r : y ≡ true) (j : ℕ) (full : Bool) (J : j ≡ separators_end s (i + 1)) (F : full ≡ (leb GRPCNT k || leb GRPGTCNT m.tokens)) (names' table' : List ℕ) where
        on : further long inner s k joint t ≡ and_then (token long inner s j full (places_of names m.places) m.tokens) (joins k b i t)
        on = rw (J, F, K.names_hold, K.tokens) (further_on long inner s k joint t i b here B p q (sym Y ∙ r))

        pub next_refused : (f : Fault) (r : Result Next Fault) → Refuses f (token long inner s j full (places_of names m.places) m.tokens) → r ≡ Err f
            → MeetsFurther (length s) (begun lo T n d) k names' table' r (further long inner s k joint t)
        next_refused f r M h = rw h (refuses_on f (token long inner s j full (places_of names m.places) m.tokens) (joins k b i t) (further long inner s k joint t) M on)

        pub next_joined : (u v : Model) (table'' : List ℕ) → Meets (length s) (begun (m.places + 1) table m.code (4 * m.tokens + 3)) names' table' (Ok u) (token long inner s j full (places_of names m.places) m.tokens)
            → v ≡ join_model b i m u → table'' ≡ join_table b lo m u table' → MeetsFurther (length s) (begun lo T n d) k names' table'' (Ok (Joined b v)) (further long inner s k joint t)
        next_joined u v table'' M f h =
            let x : Reading Tokens = token long inner s j full (places_of names m.places) m.tokens in
            let w = read_got (length s) _ names' table' u x M in
            let got_it : further long inner s k joint t ≡ joins k b i t w.0 = on ∙ ap (λ (x : Reading Tokens). and_then x (joins k b i t)) w.1 in
            joined_meets _ (begun lo T n d) k names' table'' b v (further long inner s k joint t) (join_tokens k b i t w.0) got_it
            (rw (f, h)
            (join_kept _ lo T n (d + 1) k joint names table names' table' m u t w.0 K w.2 (further_room long inner s k joint t b (join_tokens k b i t w.0) got_it) b i
            (and_left (is_connector b) _ (sym Y ∙ r)) (and_right (is_connector b) _ (sym Y ∙ r))))

-- The members of a group so far, from the first one on.

pub record So (long : ℕ) (inner : ℕ → List Place → ℕ → Reading Tokens) (s : List ℕ) (lo : ℕ) (names₀ table₀ : List ℕ) (m₀ : Model) (names table : List ℕ) (m : Model) (k joint : ℕ) : Type 0 where
  pub few : k ≤ GRPCNT
  pub read : (T : List ℕ) (n d : ℕ) (t₀ : Tokens) → Keeps (length s) (begun lo T n (d + 1)) 1 0 names₀ table₀ m₀ t₀
      → (t : Tokens) × Keeps (length s) (begun lo T n (d + 1)) k joint names table m t × (members long inner s GRPCNT 1 0 t₀ ≡ members long inner s ((GRPCNT + 1) - k) k joint t)

module _ (long : ℕ) (inner : ℕ → List Place → ℕ → Reading Tokens) (s : List ℕ) (lo : ℕ) (names₀ table₀ : List ℕ) (m₀ : Model) where
  pub so_first : So long inner s lo names₀ table₀ m₀ names₀ table₀ m₀ 1 0
  so_first = record { few = omega arith; read = λ T n d t K. (t, K, refl) }

  -- What is kept of them lies within its bounds.
  pub so_in : (names table : List ℕ) (m : Model) (k joint : ℕ) → So long inner s lo names₀ table₀ m₀ names table m k joint
      → (T : List ℕ) (n d : ℕ) (t₀ : Tokens) → Keeps (length s) (begun lo T n (d + 1)) 1 0 names₀ table₀ m₀ t₀ → (m.at ≤ length s) × (m.places ≤ m.tokens) × (m.tokens ≤ GRPGTCNT)
  so_in names table m k joint S T n d t₀ K₀ = omega (arith, (S.read T n d t₀ K₀).1)

  module _ (names table : List ℕ) (m : Model) (k joint : ℕ) (S : So long inner s lo names₀ table₀ m₀ names table m k joint) where
    -- What follows them is refused.
    pub so_unfit : (T : List ℕ) (n d : ℕ) (t₀ : Tokens) → Keeps (length s) (begun lo T n (d + 1)) 1 0 names₀ table₀ m₀ t₀ → (y : Reading Tokens) → y ≡ members long inner s GRPCNT 1 0 t₀
        → (f : Fault) → ((T : List ℕ) (n d : ℕ) (t : Tokens) → Keeps (length s) (begun lo T n (d + 1)) k joint names table m t → Refuses f (further long inner s k joint t)) → Refuses f y
    so_unfit T n d t₀ K₀ y q f N =
        let w = S.read T n d t₀ K₀ in
        refuses y refl (q ∙ w.2 ∙ members_refused long inner s k joint w.0 S.few _ _ (refused_is f _ (N T n d w.0 w.1)))

  module _ (names table : List ℕ) (m : Model) (k joint : ℕ) (S : So long inner s lo names₀ table₀ m₀ names table m k joint) (names' table' : List ℕ) where
    -- What follows them stands for such an answer.
    abbrev Follows : Result Next Fault → Type 0
    Follows r = (T : List ℕ) (n d : ℕ) (t : Tokens) → Keeps (length s) (begun lo T n (d + 1)) k joint names table m t → MeetsFurther (length s) (begun lo T n d) k names' table' r (further long inner s k joint t)

    pub so_closed : (T : List ℕ) (n d : ℕ) (t₀ : Tokens) → Keeps (length s) (begun lo T n (d + 1)) 1 0 names₀ table₀ m₀ t₀ → (y : Reading Tokens) → y ≡ members long inner s GRPCNT 1 0 t₀
        → (u : Model) → Follows (Ok (Closed u)) → Meets (length s) (begun lo T n d) names' table' (Ok u) y
    so_closed T n d t₀ K₀ y q u N =
        let w = S.read T n d t₀ K₀ in
        let x = closed_got _ (begun lo T n d) k names' table' u _ (N T n d w.0 w.1) in
        got_meets _ (begun lo T n d) names' table' u _ _ (q ∙ w.2 ∙ members_closed long inner s k joint w.0 S.few x.0 x.1) x.2

    pub so_joined : (T : List ℕ) (n d : ℕ) (t₀ : Tokens) → Keeps (length s) (begun lo T n (d + 1)) 1 0 names₀ table₀ m₀ t₀ → (b : ℕ) (u : Model) → Follows (Ok (Joined b u))
        → (k < GRPCNT) × So long inner s lo names₀ table₀ m₀ names' table' u (k + 1) b
    so_joined T n d t₀ K₀ b u N =
        let w = S.read T n d t₀ K₀ in
        let x = joined_got _ (begun lo T n d) k names' table' b u _ (N T n d w.0 w.1) in
        let h : k < GRPCNT = further_room long inner s k joint w.0 b x.0 x.1 in
        (h, record { few = omega arith; read = next })
      where
        next : (T : List ℕ) (n d : ℕ) (t₀ : Tokens) → Keeps (length s) (begun lo T n (d + 1)) 1 0 names₀ table₀ m₀ t₀
            → (t : Tokens) × Keeps (length s) (begun lo T n (d + 1)) (k + 1) b names' table' u t × (members long inner s GRPCNT 1 0 t₀ ≡ members long inner s ((GRPCNT + 1) - (k + 1)) (k + 1) b t)
        next T n d t₀ K₀ =
            let w = S.read T n d t₀ K₀ in
            let x = joined_got _ (begun lo T n d) k names' table' b u _ (N T n d w.0 w.1) in
            (x.0, x.2, w.2 ∙ members_joined long inner s k joint w.0 S.few b x.0 x.1)
