-- The rules give the same orders in views that are the same but for the order of their links.
use Rattle.std.proofs.Common.{◌≡◌, ℕ, ◌-◌, min, Bool, true, false, ◌&&◌, ◌||◌, nat_lt, if◌then◌else◌, List, ◌++◌, refl, sym, ap, ◌∙◌}
use Rattle.std.specs.List.{flat_map}
use Rattle.net_base.specs.declared.address.Addr.{Addr}
use Rattle.net_base.specs.declared.event.Group.{Group}
use Rattle.net_base.specs.declared.peer.Peer.{Peer}
use Rattle.net_base.specs.declared.peer.Temp.TheVariants.{Hot as IsHot}
use Rattle.peer_book.specs.Book.{is_established, same_temp, known_of, established_of, active_of}
use Rattle.govern_rules.specs.BigRules.{everybody, big_orders}
use Rattle.govern_rules.specs.ClassRules.{known_target, established_target, active_target, count_of}
use Rattle.govern_rules.specs.Links.{some_link}
use Rattle.govern_rules.specs.Marks.{has_mark}
use Rattle.govern_rules.specs.Members.{valency_task, valency_orders}
use Rattle.govern_rules.specs.Orders.{orders_for}
use Rattle.govern_rules.specs.Rules.{is_not_local, may_be_dropped, missing_of, is_member_and, members_count, g2_orders, g3_orders, g4_orders, g5_orders, g6_orders, g7_orders, g8_orders, g9_orders}
use Rattle.govern_rules.specs.SameViews.{SeeSame}
use Rattle.govern_rules.specs.Search.{is_ready, is_free}
use Rattle.govern_rules.specs.SortedLinks.{SaySame}
use Rattle.govern_rules.specs.Tasks.{order_of, may_be_given, number_of, task_orders, big_task}
use Rattle.govern_rules.specs.declared.big_rule.BigRule.{BigRule}
use Rattle.govern_rules.specs.declared.big_rule.BigRule.TheVariants.{B3, B5, B6, B8, B9}
use Rattle.govern_rules.specs.declared.link.Link.{Link}
use Rattle.govern_rules.specs.declared.mark.Mark.{Mark}
use Rattle.govern_rules.specs.declared.task.Task.{Task}
use Rattle.govern_rules.specs.declared.task.Task.TheVariants.{Asking, Forgetting, Promoting, Releasing, Activating, Deactivating}
use Rattle.govern_rules.specs.declared.valency.Valency.{Valency}
use Rattle.govern_rules.specs.declared.valency.Valency.TheVariants.{WarmUp, HotUp, HotDown}
use Rattle.govern_rules.specs.declared.view.View.{View}
use Rattle.govern_rules.proofs.Members.{missed, by_missed}
use Rattle.govern_rules.proofs.Suiting.{parts}

-- ---- by other links

abbrev with_links : List Link → View → View
with_links links view = record view { links = links }

may-same : (task : Task) (moment : ℕ) (links others : List Link) → SaySame links others → (p : Peer) →
    may_be_given task moment links p ≡ may_be_given task moment others p
may-same task moment links others same p =
    let said : (λ (mark : Mark). some_link (has_mark mark) links p.addr) ≡ (λ mark. some_link (has_mark mark) others p.addr) =
    λ i. λ mark. same (has_mark mark) p.addr i in
    sym (parts task moment links p true)
    ∙ (ap (λ (s : Mark → Bool). is_ready task moment p && (true && is_free task s)) said ∙ parts task moment others p true)

count-same : (big : Bool) (test : Link → Bool) (links others : List Link) → SaySame links others → (peers : List Peer) →
    count_of big (some_link test links) peers ≡ count_of big (some_link test others) peers
count-same big test links others same peers = λ i. count_of big (λ a. same test a i) peers

-- ---- rules by the targets

known-same : (big : Bool) (view : View) (links : List Link) → known_target big (with_links links view) ≡ known_target big view
known-same false view links = refl
known-same true view links = refl

established-same : (big : Bool) (view : View) (links : List Link) → established_target big (with_links links view) ≡ established_target big view
established-same false view links = refl
established-same true view links = refl

active-same : (big : Bool) (view : View) (links : List Link) → active_target big (with_links links view) ≡ active_target big view
active-same false view links = refl
active-same true view links = refl

number-same : (task : Task) (big : Bool) (view : View) (links : List Link) → SaySame links view.links → (peers : List Peer) →
    number_of task big (with_links links view) peers ≡ number_of task big view peers
number-same (Asking amount) big view links same peers = λ i.
    if nat_lt 0 (known-same big view links i - known_of big peers)
    then view.settings.shares - count-same big (λ l. l.owes10) links view.links same peers i else 0
number-same Forgetting big view links same peers = λ i. known_of big peers - known-same big view links i
number-same Promoting big view links same peers = λ i.
    established-same big view links i - established_of big peers - count-same big (λ l. l.pending) links view.links same peers i
number-same Releasing big view links same peers = λ i. established_of big peers - established-same big view links i
number-same Activating big view links same peers = λ i.
    active-same big view links i - active_of big peers - count-same big (λ l. l.owes2) links view.links same peers i
number-same Deactivating big view links same peers = λ i. active_of big peers - active-same big view links i

task-same : (task : Task) (big : Bool) (among : Addr → Bool) (view : View) (links : List Link) → SaySame links view.links → (peers : List Peer) →
    task_orders task big among (with_links links view) peers ≡ task_orders task big among view peers
task-same task big among view links same peers = λ i.
    orders_for big view.word (order_of task) (number-same task big view links same peers i)
    (λ p. among p.addr && may-same task view.moment links view.links same p i) peers

-- ---- rules by the valencies

missed-same : (valency : Valency) (view : View) (links : List Link) → SaySame links view.links → (peers : List Peer) (group : Group) →
    missed valency (with_links links view) peers group ≡ missed valency view peers group
missed-same WarmUp view links same peers group = λ i.
    group.warm - members_count group (λ p. is_established p.temp || same (λ l. l.pending) p.addr i) peers
missed-same HotUp view links same peers group = λ i.
    group.hot - members_count group (λ p. same_temp p.temp IsHot || same (λ l. l.owes2) p.addr i) peers
missed-same HotDown view links same peers group = refl

valency-same : (valency : Valency) (view : View) (links : List Link) → SaySame links view.links → (peers : List Peer) (group : Group) →
    valency_orders valency (with_links links view) peers group ≡ valency_orders valency view peers group
valency-same valency view links same peers group =
    let task = valency_task valency in
    let between : orders_for false view.word (order_of task) (missed valency (with_links links view) peers group)
    (is_member_and group (may_be_given task view.moment links)) peers
    ≡ orders_for false view.word (order_of task) (missed valency view peers group) (is_member_and group (may_be_given task view.moment view.links)) peers = λ i.
    orders_for false view.word (order_of task) (missed-same valency view links same peers group i)
    (is_member_and group (λ p. may-same task view.moment links view.links same p i)) peers in
    sym (by_missed valency (with_links links view) peers group) ∙ (between ∙ by_missed valency view peers group)

groups-same : (valency : Valency) (view : View) (links : List Link) → SaySame links view.links → (peers : List Peer) (groups : List Group) →
    flat_map (valency_orders valency (with_links links view) peers) groups ≡ flat_map (valency_orders valency view peers) groups
groups-same valency view links same peers groups = λ i. flat_map (λ group. valency-same valency view links same peers group i) groups

-- ---- each rule

pub g2-same : (view other : View) (peers : List Peer) → SeeSame view other → g2_orders view peers ≡ g2_orders other peers
g2-same view other peers see =
    ap (λ v. g2_orders v peers) see.same
    ∙ task-same (Asking (min (missing_of other peers) 10)) false everybody other view.links see.say_same peers

pub g3-same : (view other : View) (peers : List Peer) (groups : List Group) (publics : List Addr) → SeeSame view other →
    g3_orders view peers groups publics ≡ g3_orders other peers groups publics
g3-same view other peers groups publics see =
    ap (λ v. g3_orders v peers groups publics) see.same
    ∙ task-same Forgetting false (may_be_dropped groups publics) other view.links see.say_same peers

pub g4-same : (view other : View) (peers : List Peer) (groups : List Group) → SeeSame view other → g4_orders view peers groups ≡ g4_orders other peers groups
g4-same view other peers groups see =
    ap (λ v. g4_orders v peers groups) see.same ∙ groups-same WarmUp other view.links see.say_same peers groups

pub g5-same : (view other : View) (peers : List Peer) (groups : List Group) → SeeSame view other → g5_orders view peers groups ≡ g5_orders other peers groups
g5-same view other peers groups see =
    ap (λ v. g5_orders v peers groups) see.same ∙ task-same Promoting false (is_not_local groups) other view.links see.say_same peers

pub g6-same : (view other : View) (peers : List Peer) (groups : List Group) → SeeSame view other → g6_orders view peers groups ≡ g6_orders other peers groups
g6-same view other peers groups see =
    ap (λ v. g6_orders v peers groups) see.same ∙ task-same Releasing false (is_not_local groups) other view.links see.say_same peers

pub g7-same : (view other : View) (peers : List Peer) (groups : List Group) → SeeSame view other → g7_orders view peers groups ≡ g7_orders other peers groups
g7-same view other peers groups see =
    ap (λ v. g7_orders v peers groups) see.same ∙ groups-same HotUp other view.links see.say_same peers groups

pub g8-same : (view other : View) (peers : List Peer) (groups : List Group) → SeeSame view other → g8_orders view peers groups ≡ g8_orders other peers groups
g8-same view other peers groups see =
    ap (λ v. g8_orders v peers groups) see.same ∙ task-same Activating false (is_not_local groups) other view.links see.say_same peers

pub g9-same : (view other : View) (peers : List Peer) (groups : List Group) → SeeSame view other → g9_orders view peers groups ≡ g9_orders other peers groups
g9-same view other peers groups see =
    let by_target = task-same Deactivating false (is_not_local groups) other view.links see.say_same peers in
    let by_valency = groups-same HotDown other view.links see.say_same peers groups in
    ap (λ v. g9_orders v peers groups) see.same ∙ (λ i. by_target i ++ by_valency i)

by_task : (rule : BigRule) (view : View) (peers : List Peer) → task_orders (big_task rule) true everybody view peers ≡ big_orders rule view peers
by_task B3 view peers = refl
by_task B5 view peers = refl
by_task B6 view peers = refl
by_task B8 view peers = refl
by_task B9 view peers = refl

pub big-same : (rule : BigRule) (view other : View) (peers : List Peer) → SeeSame view other → big_orders rule view peers ≡ big_orders rule other peers
big-same rule view other peers see =
    ap (λ v. big_orders rule v peers) see.same
    ∙ (sym (by_task rule (with_links view.links other) peers)
    ∙ (task-same (big_task rule) true everybody other view.links see.say_same peers ∙ by_task rule other peers))
