-- What the words of a node ask for.
use Rattle.std.specs.Prelude.{ℕ, List, [], ◌∷◌, codes, bytes_eq, if◌then◌else◌, Option, Some, None}
use Rattle.net_base.specs.Number.{number_up_to}
use Rattle.node_run.specs.declared.node_words.NodeWords.{NodeWords}

-- the names of the settings file and of the topology file, and how many events of the world there are to be
pub record Asked : Type 0 where
  pub conf : List ℕ
  pub topo : List ℕ
  pub count : ℕ

abbrev pub asked_for : List ℕ → List ℕ → Option ℕ → Option Asked
asked_for conf topo None = None
asked_for conf topo (Some count) = Some (record { conf = conf; topo = topo; count = count })

-- `node`, two names and a number up to 900,000, in decimal without a sign and without leading zeros
abbrev pub node_of : List (List ℕ) → Option Asked
node_of [] = None
node_of (word ∷ []) = None
node_of (word ∷ conf ∷ []) = None
node_of (word ∷ conf ∷ topo ∷ []) = None
node_of (word ∷ conf ∷ topo ∷ count ∷ []) =
    if bytes_eq word (codes "node") then asked_for conf topo (number_up_to 900000 count) else None
node_of (word ∷ conf ∷ topo ∷ count ∷ next ∷ words) = None

-- the same of the words as the code holds them
abbrev pub asked_by : NodeWords → Asked
asked_by words = record { conf = words.conf.now; topo = words.topo.now; count = words.count }
