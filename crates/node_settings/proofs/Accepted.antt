-- What the files say that are accepted: settings and targets in their ranges, and valencies in theirs.
use Rattle.std.proofs.Common.{◌≡◌, ℕ, ◌≤◌, Bool, true, false, cond, leb, List, [], ◌∷◌, ◌++◌, length, codes, All, Option, Some, None, Result, Ok, Err, IfOk, refl, subst, leb-true}
use Rattle.std.specs.Option.{ok_or, option_map, option_and_then}
use Rattle.std.specs.Str.{is_utf8}
use Rattle.std.proofs.lemmas.List.Elements.{All-nil, All-cons}
use Rattle.serde_json.specs.Data.{Data, null, boolean, number, string, array, object, Items, no_items, item}
use Rattle.serde_json.specs.Find.{get, as_u64, as_number, as_array, as_bool as as_flag}
use Rattle.serde_json.specs.Read.{read}
use Rattle.toml.specs.Data.{Members, get_member, as_bool}
use Rattle.toml.specs.Parse.{parse_document}
use Rattle.net_base.specs.Bounds.{settings_fault, targets_fault, AreSound}
use Rattle.net_base.specs.Limits.{HasValencies}
use Rattle.net_base.specs.Number.{up_to}
use Rattle.net_base.specs.declared.address.Addr.{Addr}
use Rattle.net_base.specs.declared.event.Group.{Group}
use Rattle.net_base.specs.declared.settings.Field.{Field}
use Rattle.net_base.specs.declared.settings.Field.TheVariants.{Root, Rootttl, Tick, Seed, Announce, Advertise, HotValency, Valency, WarmValency, LocalRoots, PublicRoots}
use Rattle.net_base.specs.declared.settings.Settings.{Settings}
use Rattle.net_base.specs.declared.targets.Targets.{Targets}
use Rattle.node_settings.specs.Reading.{◌>>=◌, unless_wrong, optional}
use Rattle.node_settings.specs.Config.{whole_number, known_names, own_in, settings_in, checked_settings_in, targets_in, checked_targets_in, interval_in, config_in, refused as config_refused, config_of_table, config_of}
use Rattle.node_settings.specs.Topology.{Point, an_object, points_of, small_number, most_valency, hot_valency_of, hot_valency, local_root, local_roots, public_roots, topology_in, refused as topology_refused, topology_of_document, topology_of}
use Rattle.node_settings.specs.declared.config.Config.{Config}
use Rattle.node_settings.specs.declared.config_refusal.ConfigRefusal.TheVariants.{BadToml}
use Rattle.node_settings.specs.declared.topology.Topology.{Topology}
use Rattle.node_settings.specs.declared.topology_refusal.TopologyRefusal.TheVariants.{BadJson}

-- ---- readings, one after the other

-- what holds of each value of the first gives what holds of the whole
chain_with : {A B : Type 0} (Q : A → Type 0) (P : B → Type 0) (r : Result A Field) (f : A → Result B Field) → IfOk r Q → ((x : A) → Q x → IfOk (f x) P) → IfOk (r >>= f) P
chain_with Q P (Ok x) f h each = each x h
chain_with Q P (Err field) f h each = tt

chain : {A B : Type 0} (P : B → Type 0) (r : Result A Field) (f : A → Result B Field) → ((x : A) → IfOk (f x) P) → IfOk (r >>= f) P
chain P (Ok x) f each = each x
chain P (Err field) f each = tt

-- a value that could be wrong and is there is right
right : {A : Type 0} (Q : A → Type 0) (fault : A → Option Field) (value : A) → Q value → IfOk (unless_wrong (fault value) value) (λ v. (fault v ≡ None) × Q v)
right {A} Q fault value q = by_fault (fault value) refl
  where
    by_fault : (found : Option Field) → fault value ≡ found → IfOk (unless_wrong found value) (λ v. (fault v ≡ None) × Q v)
    by_fault None is = (is, q)
    by_fault (Some field) is = tt

-- ---- the settings file

-- settings and targets in their ranges, for traces of version 2
abbrev pub CanRun : Config → Type 0
CanRun config = AreSound config.settings × (config.settings.version ≡ 2) × (targets_fault config.targets ≡ None)

settings_right : (table : Members) (own : Addr) → IfOk (checked_settings_in table own) (λ s. AreSound s × (s.version ≡ 2))
settings_right table own = right (λ s. s.version ≡ 2) settings_fault (settings_in table own) refl

targets_right : (table : Members) → IfOk (checked_targets_in table) (λ t. (targets_fault t ≡ None) × Unit {0})
targets_right table =
    chain (λ t. (targets_fault t ≡ None) × Unit {0}) (optional Root whole_number 10 (get_member (codes "root") table)) _
    (λ root. right (λ t. Unit {0}) targets_fault (targets_in table root) tt)

config_right : (table : Members) → IfOk (config_in table) CanRun
config_right table =
    chain CanRun (known_names table) _ (λ _.
    chain CanRun (own_in table) _ (λ own.
    chain_with (λ s. AreSound s × (s.version ≡ 2)) CanRun (checked_settings_in table own) _ (settings_right table own) (λ settings s.
    chain_with (λ t. (targets_fault t ≡ None) × Unit {0}) CanRun (checked_targets_in table) _ (targets_right table) (λ targets t.
    chain CanRun (interval_in Rootttl table (codes "rootttl") 3600000) _ (λ _.
    chain CanRun (interval_in Tick table (codes "tick") 1000) _ (λ _.
    chain CanRun (optional Seed whole_number 0 (get_member (codes "seed") table)) _ (λ _.
    chain CanRun (optional Announce as_bool true (get_member (codes "announce") table)) _ (λ _.
    (s.0, s.1, t.0)))))))))

refused_config : (r : Result Config Field) → IfOk r CanRun → IfOk (config_refused r) CanRun
refused_config (Ok config) h = h
refused_config (Err field) h = tt

table_right : (found : Option Members) → IfOk (config_of_table found) CanRun
table_right None = tt
table_right (Some table) = refused_config (config_in table) (config_right table)

text_right : (b : Bool) (found : Option Members) → IfOk (cond b (config_of_table found) (Err BadToml)) CanRun
text_right true found = table_right found
text_right false found = tt

pub accepted_config : (bytes : List ℕ) (config : Config) → config_of bytes ≡ Ok config → CanRun config
accepted_config bytes config e = subst (λ r. IfOk r CanRun) e (text_right (is_utf8 bytes) (parse_document bytes))

-- ---- the topology file

abbrev IsValency : ℕ → Type 0
IsValency n = n ≤ 10000

small : (found : Option ℕ) (field : Field) → IfOk (ok_or (up_to most_valency found) field) IsValency
small None field = tt
small (Some n) field = by_test (leb n most_valency) refl
  where
    by_test : (b : Bool) → leb n most_valency ≡ b → IfOk (ok_or (cond b (Some n) None) field) IsValency
    by_test true is = leb-true n most_valency is
    by_test false is = tt

hot_small : (count : ℕ) (hot valency : Option Data) → IfOk (hot_valency_of count hot valency) IsValency
hot_small count (Some hot) valency = small (option_and_then as_u64 (as_number hot)) HotValency
hot_small count None (Some valency) = small (option_and_then as_u64 (as_number valency)) Valency
hot_small count None None = small (Some count) HotValency

warm_small : (hot : ℕ) (found : Option Data) → IsValency hot → IfOk (optional WarmValency (small_number most_valency) hot found) IsValency
warm_small hot None h = h
warm_small hot (Some value) h = small (option_and_then as_u64 (as_number value)) WarmValency

abbrev IsRoot : (Group × ℕ) → Type 0
IsRoot root = HasValencies root.0

root_right : (root : Data) → IfOk (local_root root) IsRoot
root_right root =
    chain IsRoot (an_object LocalRoots root) _ (λ _.
    chain IsRoot (points_of root) _ (λ points.
    chain IsRoot (optional Advertise as_flag false (get (codes "advertise") root)) _ (λ _.
    chain_with IsValency IsRoot (hot_valency (length points) root) _ (hot_small (length points) (get (codes "hotValency") root) (get (codes "valency") root)) (λ hot h.
    chain_with IsValency IsRoot (optional WarmValency (small_number most_valency) hot (get (codes "warmValency") root)) _
    (warm_small hot (get (codes "warmValency") root) h) (λ warm w. (h, w))))))

abbrev AreRoots : (List Group × ℕ) → Type 0
AreRoots roots = All HasValencies roots.0

roots_right : (items : Items) → IfOk (local_roots items) AreRoots
roots_right no_items = All-nil HasValencies
roots_right (item root roots) =
    chain_with IsRoot AreRoots (local_root root) _ (root_right root) (λ first h.
    chain_with AreRoots AreRoots (local_roots roots) _ (roots_right roots) (λ others all. All-cons HasValencies first.0 others.0 h all))

abbrev IsTopology : Topology → Type 0
IsTopology topology = All HasValencies topology.groups

topology_right : (document : Data) → IfOk (topology_in document) IsTopology
topology_right document =
    chain IsTopology (optional LocalRoots as_array no_items (get (codes "localRoots") document)) _ (λ locals.
    chain_with AreRoots IsTopology (local_roots locals) _ (roots_right locals) (λ groups h.
    chain IsTopology (optional PublicRoots as_array no_items (get (codes "publicRoots") document)) _ (λ publics.
    chain IsTopology (public_roots publics) _ (λ addresses. h))))

refused_topology : (r : Result Topology Field) → IfOk r IsTopology → IfOk (topology_refused r) IsTopology
refused_topology (Ok topology) h = h
refused_topology (Err field) h = tt

document_right : (found : Option Data) → IfOk (topology_of_document found) IsTopology
document_right None = tt
document_right (Some null) = tt
document_right (Some (boolean b)) = tt
document_right (Some (number n)) = tt
document_right (Some (string text)) = tt
document_right (Some (array values)) = tt
document_right (Some (object members)) = refused_topology (topology_in (object members)) (topology_right (object members))

json_right : (b : Bool) (found : Option Data) → IfOk (cond b (topology_of_document found) (Err BadJson)) IsTopology
json_right true found = document_right found
json_right false found = tt

pub accepted_topology : (bytes : List ℕ) (topology : Topology) → topology_of bytes ≡ Ok topology → All HasValencies topology.groups
accepted_topology bytes topology e = subst (λ r. IfOk r IsTopology) e (json_right (is_utf8 bytes) (read bytes))
