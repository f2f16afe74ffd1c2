-- What stands at the place of a connection: its facts, and what is kept beside them.
use Rattle.std.proofs.Common.{◌≡◌, ℕ, ◌<◌, Bool, true, false, ◌&&◌, Some, IsSome, IfSome, get_or, length, slice_get, refl, sym, ap, subst, ◌∙◌}
use mathlib.Core.Bool.{beq}
use Rattle.std.proofs.lemmas.Bool.{true≢false, and_parts}
use Rattle.std.proofs.lemmas.Option.{get_or_from_slice_get, same_Some, slice_get_within}
use Rattle.conn_state.specs.Names.{name_of}
use Rattle.conn_table.specs.Finds.{id_place}
use Rattle.conn_table.specs.Rosters.{facts_kept}
use Rattle.conn_table.proofs.IdPlaces.{get-place}
use Rattle.machine.specs.Govern.{link_of}
use Rattle.net_base.specs.Shared.{nothing_undecoded}
use Rattle.net_base.specs.declared.connection.Cid.{Cid}
use Rattle.net_base.specs.declared.connection.Facts.{Facts}
use Rattle.net_base.specs.declared.action.StateName.{StateName}
use Rattle.connections.specs.Kept.{IsWhole, standing}
use Rattle.connections.specs.Linked.{sight_of}
use Rattle.connections.specs.Standing.{entry_with}
use Rattle.connections.specs.Talks.{entry_of}
use Rattle.connections.specs.declared.kept.Kept.{Kept}
use Rattle.connections.specs.declared.sight.Sight.{Sight}
use Rattle.connections.specs.declared.talk.Talk.{Talk}
use Rattle.connections.proofs.Stepping.{FoundIn, any_in}
use Rattle.connections.proofs.TalkTurns.{Any, place_inside}

placed : (cid : Cid) (place : ℕ) (kept : Kept) → IsWhole kept → (it : FoundIn Any cid.0 kept) → place ≡ id_place cid.0 (facts_kept kept.roster) →
    slice_get (facts_kept kept.roster) place ≡ Some it.facts
placed cid place kept whole it at =
    ap (slice_get (facts_kept kept.roster)) at
    ∙ get-place cid.0 0 kept.roster.given (facts_kept kept.roster) it.facts whole.roster_kept.ids_rise it.at.facts_there

pub placed_facts : (cid : Cid) (place : ℕ) (kept : Kept) → IsWhole kept → IsSome (entry_with cid.0 (standing kept)) →
    place ≡ id_place cid.0 (facts_kept kept.roster) → place < length (facts_kept kept.roster)
placed_facts cid place kept whole stands at =
    let it = any_in cid.0 kept whole stands in
    slice_get_within (facts_kept kept.roster) place it.facts (placed cid place kept whole it at)

pub placed_talk : (cid : Cid) (place : ℕ) (kept : Kept) → IsWhole kept → IsSome (entry_with cid.0 (standing kept)) →
    place ≡ id_place cid.0 (facts_kept kept.roster) → place < length kept.talks
placed_talk cid place kept whole stands at =
    let it = any_in cid.0 kept whole stands in
    place_inside cid.0 place _ _ it.facts it.talk at it.at

-- the connection, and what was read of it
pub record Read (cid : Cid) (kept : Kept) (facts : Facts) (talk : Talk) : Type 0 where
  pub it : FoundIn Any cid.0 kept
  pub facts_are : facts ≡ it.facts
  pub talk_is : talk ≡ it.talk

pub read : (cid : Cid) (place : ℕ) (kept : Kept) (facts : Facts) (talk : Talk) → IsWhole kept → IsSome (entry_with cid.0 (standing kept)) →
    place ≡ id_place cid.0 (facts_kept kept.roster) → slice_get (facts_kept kept.roster) place ≡ Some facts → talk ≡ get_or kept.talks place talk →
    Read cid kept facts talk
read cid place kept facts talk whole stands at facts_there talk_there =
    let it = any_in cid.0 kept whole stands in record {
      it = it;
      facts_are = same_Some _ _ (sym facts_there ∙ placed cid place kept whole it at);
      talk_is = talk_there
          ∙ (ap (λ n. get_or kept.talks n talk) at
          ∙ get_or_from_slice_get kept.talks (id_place cid.0 (facts_kept kept.roster)) it.talk talk it.at.talk_there);
    }

-- what the rules see of it, with its address and id and without
pub seen : (g f : Facts) (u t : Talk) → g ≡ f → u ≡ t →
    link_of (record { facts = g; undecoded = nothing_undecoded; owed = u.replies }) ≡ link_of (entry_of f t)
seen g f u t facts talk =
    ap (λ (h : Facts). link_of (record { facts = h; undecoded = nothing_undecoded; owed = u.replies })) facts
    ∙ ap (λ (v : Talk). link_of (record { facts = f; undecoded = nothing_undecoded; owed = v.replies })) talk

pub sighted : (g f : Facts) (u t : Talk) → g ≡ f → u ≡ t →
    sight_of (record { facts = g; undecoded = nothing_undecoded; owed = u.replies }) ≡ sight_of (entry_of f t)
sighted g f u t facts talk =
    ap (λ (h : Facts). sight_of (record { facts = h; undecoded = nothing_undecoded; owed = u.replies })) facts
    ∙ ap (λ (v : Talk). sight_of (record { facts = f; undecoded = nothing_undecoded; owed = v.replies })) talk

-- ---- what is seen is the same

same_flag : (a b : Bool) → beq a b ≡ true → a ≡ b
same_flag true true e = refl
same_flag true false e = absurd (true≢false (sym e))
same_flag false true e = absurd (true≢false (sym e))
same_flag false false e = refl

pub same_sight : (s t : Sight) → (beq s.live t.live && (beq s.acquirable t.acquirable && (beq s.pending t.pending && (beq s.local t.local
    && (beq s.sharing t.sharing && (beq s.owes2 t.owes2 && (beq s.owes8 t.owes8 && beq s.owes10 t.owes10))))))) ≡ true → s ≡ t
same_sight s t e =
    let a = and_parts (beq s.live t.live) _ e in
    let b = and_parts (beq s.acquirable t.acquirable) _ a.1 in
    let c = and_parts (beq s.pending t.pending) _ b.1 in
    let d = and_parts (beq s.local t.local) _ c.1 in
    let f = and_parts (beq s.sharing t.sharing) _ d.1 in
    let g = and_parts (beq s.owes2 t.owes2) _ f.1 in
    let h = and_parts (beq s.owes8 t.owes8) _ g.1 in
    λ i. record {
      live = same_flag s.live t.live a.0 i;
      acquirable = same_flag s.acquirable t.acquirable b.0 i;
      pending = same_flag s.pending t.pending c.0 i;
      local = same_flag s.local t.local d.0 i;
      sharing = same_flag s.sharing t.sharing f.0 i;
      owes2 = same_flag s.owes2 t.owes2 g.0 i;
      owes8 = same_flag s.owes8 t.owes8 h.0 i;
      owes10 = same_flag s.owes10 t.owes10 h.1 i;
    }

-- ---- its name

pub named : (cid : Cid) (place : ℕ) (kept : Kept) (facts : Facts) (name : StateName) → IsWhole kept → IsSome (entry_with cid.0 (standing kept)) →
    place ≡ id_place cid.0 (facts_kept kept.roster) → slice_get (facts_kept kept.roster) place ≡ Some facts → name ≡ name_of facts →
    IfSome (entry_with cid.0 (standing kept)) (λ e. name ≡ name_of e.facts)
named cid place kept facts name whole stands at there is =
    let it = any_in cid.0 kept whole stands in
    subst (λ o. IfSome o (λ e. name ≡ name_of e.facts)) (sym it.at.entry_there)
    (is ∙ ap name_of (same_Some _ _ (sym there ∙ placed cid place kept whole it at)))
