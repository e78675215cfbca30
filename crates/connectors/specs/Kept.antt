-- What is kept of a model while it is read, in the rules' terms.
use Rattle.std.specs.Prelude.{ℕ, ◌+◌, ◌*◌, ◌≤◌, ◌≡◌, true, false, cond, List, ◌++◌, length, eqb}
use Rattle.model_code.specs.Codes.{ALSO_CODE, ALT_CODE, SEQ_CODE}
use Rattle.rules.specs.Walk.{Group, and}
use Rattle.rules.specs.TypeFile.{Tokens, members_of, earlier}
use Rattle.rules.specs.Bytes.{AND, GRPCNT, GRPGTCNT, SEQ}
use Rattle.layout.specs.Sizes.{MODEL}
use Rattle.model_sets.specs.Sets.{size, Numbered, amount}
use Rattle.model_table.specs.declared.Part.{Part}
use Rattle.model_table.specs.Fill.{part_of, part_seq, part_alt, part_and, join_seq, join_and}
use Rattle.model_table.specs.Shows.{Filled}
use Rattle.model_code.specs.Six.{put_code, code_next}
use Rattle.model_code.specs.Spelled.{codes, codes_m, code_in}
use Rattle.model_names.specs.Places.{places_of}
use Rattle.connectors.specs.declared.Model.{Model}

-- Where the reading of a group began: its first place, the model's table, how many numbers the code had, and how many of those that the
-- content tokens of the model leave room for, four each and two more, are due to others.
pub record Begun : Type 0 where
  pub lo : ℕ
  pub table : List ℕ
  pub code : ℕ
  pub due : ℕ

abbrev pub begun : (lo : ℕ) (T : List ℕ) (n due : ℕ) → Begun
begun lo T n due = record { lo = lo; table = T; code = n; due = due }

-- The table has its length, and the code has room.
pub record Ready (B : Begun) : Type 0 where
  pub len : length B.table ≡ MODEL
  pub owed : B.code ≤ B.due

-- The table and its code, of so many numbers, hold what they held and the group g, which is spelled so. The model has so many tokens.
pub record Tabled (B : Begun) (g : Group) (spelled : List ℕ) (tokens : ℕ) (table : List ℕ) (code : ℕ) : Type 0 where
  pub filled : Filled g B.lo B.table table
  pub code_holds : code_in table code ≡ code_in B.table B.code ++ spelled
  pub room : code + B.due ≤ B.code + 2 + 4 * tokens

-- The code of a group up to which the connector is known, 0 if it has one token so far: an "&" group says how many members it has at its ")".
abbrev pub spelt : (joint : ℕ) → Group → List ℕ
spelt joint g = cond (eqb joint AND) (codes_m (members_of g)) (codes g)

-- The group g is that of k content tokens joined by the connector; 0 is that of one.
pub record Joins (k joint : ℕ) (g : Group) : Type 0 where
  pub few : k ≤ GRPCNT
  pub alone : joint ≡ 0 → k ≡ 1
  pub some : joint ≡ AND → 2 ≤ k
  pub whole : joint ≡ AND → g ≡ and (members_of g)
  pub members : joint ≡ AND → amount (members_of g) ≡ k

-- The code keeps m of t beside its two tables, of an input of `end` bytes: t is the group of k content tokens joined by the connector.
pub record Keeps (end : ℕ) (B : Begun) (k joint : ℕ) (names table : List ℕ) (m : Model) (t : Tokens) : Type 0 where
  pub at : m.at ≡ t.at
  pub places : m.places ≡ length t.places
  pub tokens : m.tokens ≡ t.tokens
  pub part : m.part ≡ part_of t.group
  pub and_at : m.and ≡ t.and
  pub repeated_at : m.repeated ≡ t.repeated
  pub names_hold : places_of names m.places ≡ t.places
  pub tabled : Ready B → Tabled B t.group (spelt joint t.group) t.tokens table m.code
  -- This is what holds of t itself.
  pub joins : Joins k joint t.group
  pub from : 1 ≤ B.lo
  pub numbered : Numbered t.group B.lo
  pub counted : length t.places + 1 ≡ B.lo + size t.group
  pub at_in : t.at ≤ end
  pub places_in_lem : length t.places ≤ t.tokens
  pub tokens_in_lem : t.tokens ≤ GRPGTCNT

-- Two groups of a model joined by the connector b at i, as the code does it.
abbrev pub join_part : ℕ → Part → Part → Part
join_part b p q = cond (eqb b SEQ) (part_seq p q) (cond (eqb b AND) (part_and p q) (part_alt p q))

abbrev pub join_model : (b i : ℕ) → Model → Model → Model
join_model b i m u =
    record {
      at = u.at;
      places = u.places;
      tokens = u.tokens;
      part = join_part b m.part u.part;
      code = code_next u.code;
      and = earlier m.and (elim (eqb b AND) [ true ↦ i | false ↦ u.and ]);
      repeated = earlier m.repeated u.repeated;
    }

abbrev pub join_rows : ℕ → ℕ → Model → Model → List ℕ → List ℕ
join_rows b lo m u T =
    cond (eqb b SEQ) (join_seq T lo (m.places + 1) (u.places + 1) m.part u.part) (cond (eqb b AND) (join_and T lo (m.places + 1) (u.places + 1)) T)

abbrev pub join_number : ℕ → ℕ
join_number b = cond (eqb b SEQ) SEQ_CODE (cond (eqb b AND) ALSO_CODE ALT_CODE)

abbrev pub join_table : ℕ → ℕ → Model → Model → List ℕ → List ℕ
join_table b lo m u T = put_code (join_rows b lo m u T) u.code (join_number b)
