-- What a topology file says.
use Rattle.std.specs.Prelude.{◌≡◌, ℕ, ◌+◌, Bool, true, false, List, [], ◌∷◌, ◌++◌, length, codes, count_by, is_none, if◌then◌else◌, Option, Some, None, Result, Ok, Err, ⊤}
use Rattle.std.specs.List.{filter_map}
use Rattle.std.specs.Option.{option_and_then, option_map, ok_or}
use Rattle.std.specs.Str.{is_utf8}
use Rattle.serde_json.specs.Data.{Data, null, boolean, number, string, array, object, Items, no_items, item}
use Rattle.serde_json.specs.Find.{get, as_u64, as_number, as_str, as_bool, as_array, as_object}
use Rattle.serde_json.specs.Read.{read}
use Rattle.net_base.specs.Number.{up_to}
use Rattle.net_base.specs.declared.address.Addr.{Addr}
use Rattle.net_base.specs.declared.event.Group.{Group}
use Rattle.net_base.specs.declared.settings.Field.{Field}
use Rattle.net_base.specs.declared.settings.Field.TheVariants.{LocalRoots, AccessPoints, Address, Port, Advertise, HotValency, Valency, WarmValency, PublicRoots}
use Rattle.node_settings.specs.declared.topology.Topology.{Topology}
use Rattle.node_settings.specs.declared.topology_refusal.TopologyRefusal.{TopologyRefusal}
use Rattle.node_settings.specs.declared.topology_refusal.TopologyRefusal.TheVariants.{BadJson, BadSetting, OutOfMemory}
use Rattle.node_settings.specs.Host.{ip_of}
use Rattle.node_settings.specs.Reading.{◌>>=◌, required, optional}

-- a whole number of at most `most`; one with a point, an exponent or a sign is none
abbrev pub small_number : ℕ → Data → Option ℕ
small_number most value = up_to most (option_and_then as_u64 (as_number value))

-- What is no object, is named by the array that holds it.
abbrev pub an_object : Field → Data → Result (Unit {0}) Field
an_object holder value = ok_or (option_map (λ _. tt) (as_object value)) holder

-- What the items of an array give together, each read in some way: the first that is wrong decides.
abbrev pub each_of : {A B : Type 0} → (Data → Result A Field) → (A → B → B) → B → Items → Result B Field
each_of read add none no_items = Ok none
each_of read add none (item value values) = do
  first ← read value
  rest ← each_of read add none values
  Ok (add first rest)

-- ---- access points

-- an access point, or none where its address stands for none
abbrev pub Point : Type 0
Point = Option Addr

abbrev pub point_at : ℕ → List ℕ → Point
point_at port text = option_map (λ ip. record { ip = ip; port = port }) (ip_of text)

abbrev pub access_point : Data → Result Point Field
access_point value = do
  is_object ← an_object AccessPoints value
  text ← required Address as_str (get (codes "address") value)
  port ← required Port (small_number 65535) (get (codes "port") value)
  Ok (point_at port text)

abbrev pub access_points : Items → Result (List Point) Field
access_points values = each_of access_point (λ point points. point ∷ points) [] values

-- the access points of a root, which must have them
abbrev pub points_of : Data → Result (List Point) Field
points_of root = do
  values ← required AccessPoints as_array (get (codes "accessPoints") root)
  access_points values

abbrev pub addresses_of : List Point → List Addr
addresses_of points = filter_map (λ point. point) points

abbrev pub unresolved_of : List Point → ℕ
unresolved_of points = count_by is_none points

-- ---- local roots

abbrev pub most_valency : ℕ
most_valency = 10000

-- Of the two names the first counts, and where both are absent the number of access points.
abbrev pub hot_valency_of : ℕ → Option Data → Option Data → Result ℕ Field
hot_valency_of count (Some hot) valency = ok_or (small_number most_valency hot) HotValency
hot_valency_of count None (Some valency) = ok_or (small_number most_valency valency) Valency
hot_valency_of count None None = ok_or (up_to most_valency (Some count)) HotValency

abbrev pub hot_valency : ℕ → Data → Result ℕ Field
hot_valency count root = hot_valency_of count (get (codes "hotValency") root) (get (codes "valency") root)

-- some roots, and how many of their access points are unresolved
abbrev pub Counted : Type 0 → Type 0
Counted A = A × ℕ

abbrev pub local_root : Data → Result (Counted Group) Field
local_root root = do
  is_object ← an_object LocalRoots root
  points ← points_of root
  advertise ← optional Advertise as_bool false (get (codes "advertise") root)
  hot ← hot_valency (length points) root
  warm ← optional WarmValency (small_number most_valency) hot (get (codes "warmValency") root)
  Ok (record { hot = hot; warm = warm; advertise = advertise; members = addresses_of points }, unresolved_of points)

abbrev pub add_local : Counted Group → Counted (List Group) → Counted (List Group)
add_local root roots = (root.0 ∷ roots.0, root.1 + roots.1)

-- the groups in file order
abbrev pub local_roots : Items → Result (Counted (List Group)) Field
local_roots values = each_of local_root add_local ([], 0) values

-- ---- public roots

abbrev pub public_root : Data → Result (List Point) Field
public_root root = do
  is_object ← an_object PublicRoots root
  points_of root

abbrev pub add_public : List Point → Counted (List Addr) → Counted (List Addr)
add_public points roots = (addresses_of points ++ roots.0, unresolved_of points + roots.1)

-- the addresses in file order
abbrev pub public_roots : Items → Result (Counted (List Addr)) Field
public_roots values = each_of public_root add_public ([], 0) values

-- ---- the file

abbrev pub topology_in : Data → Result Topology Field
topology_in document = do
  locals ← optional LocalRoots as_array no_items (get (codes "localRoots") document)
  (groups, local_unresolved) ← local_roots locals
  publics ← optional PublicRoots as_array no_items (get (codes "publicRoots") document)
  (addresses, public_unresolved) ← public_roots publics
  Ok (record { groups = groups; publics = addresses; unresolved = local_unresolved + public_unresolved })

abbrev pub refused : Result Topology Field → Result Topology TopologyRefusal
refused (Ok topology) = Ok topology
refused (Err field) = Err (BadSetting field)

-- the document must be an object
abbrev pub topology_of_document : Option Data → Result Topology TopologyRefusal
topology_of_document None = Err BadJson
topology_of_document (Some null) = Err BadJson
topology_of_document (Some (boolean b)) = Err BadJson
topology_of_document (Some (number n)) = Err BadJson
topology_of_document (Some (string text)) = Err BadJson
topology_of_document (Some (array values)) = Err BadJson
topology_of_document (Some (object members)) = refused (topology_in (object members))

-- The file is the JSON value that a text is; of equal members the last counts. Bytes that are no UTF-8 are no text.
abbrev pub topology_of : List ℕ → Result Topology TopologyRefusal
topology_of bytes = if is_utf8 bytes then topology_of_document (read bytes) else Err BadJson

-- the answer is the wanted one, unless memory was wanting
abbrev pub IsTopologyOr : Result Topology TopologyRefusal → Result Topology TopologyRefusal → Type 0
IsTopologyOr wanted (Ok topology) = wanted ≡ Ok topology
IsTopologyOr wanted (Err BadJson) = wanted ≡ Err BadJson
IsTopologyOr wanted (Err (BadSetting field)) = wanted ≡ Err (BadSetting field)
IsTopologyOr wanted (Err OutOfMemory) = ⊤

-- the same of a part of the document, which is never refused as a whole
abbrev pub IsPartOr : {A : Type 0} → Result A Field → Result A TopologyRefusal → Type 0
IsPartOr wanted (Ok value) = wanted ≡ Ok value
IsPartOr wanted (Err BadJson) = ⊥
IsPartOr wanted (Err (BadSetting field)) = wanted ≡ Err field
IsPartOr wanted (Err OutOfMemory) = ⊤
