-- What the tables of an accepted type hold.
use Rattle.std.specs.Prelude.{ℕ, List}
use Rattle.rules.specs.Settings.{Settings}
use Rattle.rules.specs.TypeFile.{Element}
use Rattle.rules.specs.Judge.{Accepts}
use Rattle.element_index.specs.Indexed.{Indexed}
use Rattle.list_table.specs.Lists.{Lists}
use Rattle.type_tables.specs.Tables.{Tables}

-- The type file s is accepted under the settings c, and these are the tables of its elements.
abbrev pub Full : Settings → (s elements index rows places facts members lists : List ℕ) → Type 0
Full c s elements index rows places facts members lists = (es : List Element) × Accepts c s es × Indexed s es elements index × Tables s es rows places facts members × Lists c.name_length s es lists
