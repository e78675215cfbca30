-- A type that is judged and ready for documents, and what a document comes to under it.
use Rattle.std.specs.Prelude.{ℕ, ◌≡◌, refl, List, Result, Ok, Err}
use Rattle.std.proofs.Common.{subst}
use Rattle.rules.specs.Settings.{Settings, settings}
use Rattle.pieces.specs.declared.«Type».{«Type»}
use Rattle.rules.specs.Batch.{RefusesPart}
use Rattle.type_stage.specs.Stages.{Staged, PartRefused}
use Rattle.type_stage.specs.declared.Stopped.{Stopped}
use Rattle.type_stage.specs.declared.Refused.{Refused}
use Rattle.type_stage.specs.declared.Refused.TheVariants.{InType, InDocument}
use Rattle.one_document.specs.Answer.{refusal_of}
use Rattle.full_tables.specs.Full.{Full}

-- Where the type is accepted, these are its tables.
abbrev pub TablesFor : Settings → (s elements index rows places facts members lists : List ℕ) → Result ℕ Stopped → Type 0
TablesFor c s elements index rows places facts members lists (Ok n) = Full c s elements index rows places facts members lists
TablesFor c s elements index rows places facts members lists (Err x) = Unit {0}

-- The type file s is judged under the settings c, and ready for documents.
pub record Ready (c : Settings) (s elements index rows places facts members lists : List ℕ) (g : Result ℕ Stopped) : Type 0 where
  pub heads : List ℕ
  pub staged : Staged c s elements heads g
  pub tables : TablesFor c s elements index rows places facts members lists g

-- The same of what a document is read under.
abbrev pub ReadyFor : «Type» → Result ℕ Stopped → Type 0
ReadyFor t g = Ready (settings t.long t.edition) t.file.now t.elements.now t.index.now t.tables.rows.now t.tables.places.now t.tables.facts.now t.tables.members.now t.lists.now g

-- A type that is refused needs no tables.
pub ready_stopped : (c : Settings) (s elements index rows places facts members lists heads : List ℕ) (x : Stopped) (r : Result ℕ Stopped) → Staged c s elements heads (Err x) → r ≡ Err x → Ready c s elements index rows places facts members lists r
ready_stopped c s elements index rows places facts members lists heads x r h e = rw e (record { heads = heads; staged = h; tables = tt })

-- The tables of a type that is accepted.
pub tables_full : {c : Settings} {s elements index rows places facts members lists : List ℕ} {g : Result ℕ Stopped} (n : ℕ) → Ready c s elements index rows places facts members lists g → g ≡ Ok n → Full c s elements index rows places facts members lists
tables_full {c} {s} {elements} {index} {rows} {places} {facts} {members} {lists} n r e = subst (TablesFor c s elements index rows places facts members lists) e r.tables

-- A part's refusal as an answer.
pub part_refused : (c : Settings) (s : List ℕ) (x : Refused) → PartRefused c s x → RefusesPart c s (refusal_of x)
part_refused c s (InType x) h = h
part_refused c s (InDocument f) h = h
