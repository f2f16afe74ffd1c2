-- Lines that begin as those of actions do, and what they say.
use Rattle.std.proofs.Common.{◌≡◌, ℕ, Bool, true, false, cond, eqb, leb, List, [], ◌∷◌, ◌++◌, take, drop, map, All, Ok, Err, IfOk, refl, sym, ap, ◌∙◌, subst}
use Rattle.std.specs.Prelude.{codes, bytes_eq}
use Rattle.std.proofs.lemmas.List.{take-append-drop}
use Rattle.std.proofs.lemmas.List.Elements.{All-nil, All-cons}
use Rattle.net_base.specs.declared.action.Action.{Action}
use Rattle.trace_text.specs.Actions.{printed_action}
use Rattle.trace_text.specs.Lines.{version_of, first_line, second_line, set_line, setting_line, end_line, later_line, is_action_line, line_of}
use Rattle.trace_text.specs.Reading.{next_word, next_read, next_number, next_address, no_more, this_word}
use Rattle.trace_text.specs.Settings.{setting_of}
use Rattle.trace_text.specs.Words.{Unread, words_of}
use Rattle.trace_text.specs.declared.line.Line.{Line}
use Rattle.trace_text.specs.declared.line.Line.TheVariants.{Head, Happen, Acted, End}
use Rattle.trace_text.specs.declared.line.LineRefusal.TheVariants.{BadWord, OutOfOrder}
use Rattle.trace_text.specs.declared.stage.Stage.{Stage}
use Rattle.trace_text.proofs.ReadEvents.{event_line-is}
use Rattle.trace_text.proofs.Spelled.{same_bytes}
use Rattle.trace_meaning.specs.Reading.{said_at}
use Rattle.trace_compare.specs.Compare.{IsAction}
use Rattle.trace_compare.proofs.Again.{clean_action}
use Rattle.trace_meaning.proofs.Grammar.{IfOk-chain, IfOk-cond}

-- ---- a line that begins so says an action

action_text : (text : List ℕ) → is_action_line text ≡ true → text ≡ codes "> " ++ drop 2 text
action_text text begins =
    sym (take-append-drop 2 text) ∙ ap (λ (front : List ℕ). front ++ drop 2 text) (sym (same_bytes (codes "> ") (take 2 text) begins))

by_place : (first second : Bool) (stage : Stage) (rest : List ℕ) (line : Line) →
    cond first (first_line (words_of (codes "> " ++ rest))) (cond second (second_line stage.version (words_of (codes "> " ++ rest))) (Ok Acted)) ≡ Ok line → line ≡ Acted
by_place true second stage rest line e = absurd cc
by_place false true stage rest line e = absurd cc
by_place false false stage rest line e = cc

pub action_says : (stage : Stage) (text : List ℕ) (line : Line) → is_action_line text ≡ true → said_at stage text ≡ Ok line → line ≡ Acted
unfolding said_at
action_says stage text line begins says =
    by_place (eqb stage.seen 0) (eqb stage.seen 1) stage (drop 2 text) line (ap (line_of stage) (sym (action_text text begins)) ∙ says)

-- a line that says something else begins otherwise
pub quiet_text : (stage : Stage) (text : List ℕ) (line : Line) → said_at stage text ≡ Ok line → ¬ (line ≡ Acted) → is_action_line text ≡ false
quiet_text stage text line says other = by_begin (is_action_line text) refl
  where
    by_begin : (b : Bool) → is_action_line text ≡ b → b ≡ false
    by_begin true is = absurd (other (action_says stage text line is says))
    by_begin false is = refl

-- ---- and no other line says one

abbrev IsNoAction : Line → Type 0
IsNoAction (Head head) = Unit {0}
IsNoAction (Happen event) = Unit {0}
IsNoAction Acted = ⊥
IsNoAction End = Unit {0}

first_says : (unread : Unread) → IfOk (first_line unread) IsNoAction
first_says unread =
    IfOk-chain IsNoAction (next_read (this_word (codes "trace")) BadWord unread) _ (λ p _.
    IfOk-chain IsNoAction (next_read version_of BadWord p.1) _ (λ q _.
    IfOk-chain IsNoAction (no_more q.1) _ (λ _ _. tt)))

second_says : (version : ℕ) (unread : Unread) → IfOk (second_line version unread) IsNoAction
second_says version unread =
    IfOk-chain IsNoAction (next_read (this_word (codes "own")) BadWord unread) _ (λ p _.
    IfOk-chain IsNoAction (next_address version p.1) _ (λ q _.
    IfOk-chain IsNoAction (no_more q.1) _ (λ _ _. tt)))

setting_says : (place least most : ℕ) (unread : Unread) → IfOk (setting_line place least most unread) IsNoAction
setting_says place least most unread =
    IfOk-chain IsNoAction (next_number least most unread) _ (λ p _.
    IfOk-chain IsNoAction (no_more p.1) _ (λ _ _. tt))

set_says : (stage : Stage) (unread : Unread) → IfOk (set_line stage unread) IsNoAction
set_says stage unread =
    IfOk-cond IsNoAction stage.events _ _ tt (
    IfOk-chain IsNoAction (next_read (setting_of stage.hard) BadWord unread) _ (λ p _.
    IfOk-cond IsNoAction (leb p.0.0 stage.last) (Err OutOfOrder) (setting_line p.0.0 p.0.1.least p.0.1.most p.1) tt
    (setting_says p.0.0 p.0.1.least p.0.1.most p.1)))

end_says : (unread : Unread) → IfOk (end_line unread) IsNoAction
end_says unread = IfOk-chain IsNoAction (no_more unread) _ (λ _ _. tt)

later_says : (stage : Stage) (unread : Unread) → IfOk (later_line stage unread) IsNoAction
later_says stage unread =
    IfOk-chain IsNoAction (next_word unread) _ (λ p _.
    IfOk-cond IsNoAction (bytes_eq p.0 (codes "set")) _ _ (set_says stage p.1) (
    IfOk-cond IsNoAction (bytes_eq p.0 (codes "end")) _ _ (end_says p.1) (
    event_line-is stage.version p.1 IsNoAction (λ _ _. tt) p.0)))

pub acted_begins : (stage : Stage) (text : List ℕ) → said_at stage text ≡ Ok Acted → is_action_line text ≡ true
unfolding said_at
acted_begins stage text says = at_place (eqb stage.seen 0) (eqb stage.seen 1) (is_action_line text) says
  where
    at_place : (first second acts : Bool) →
        cond first (first_line (words_of text)) (cond second (second_line stage.version (words_of text)) (cond acts (Ok Acted) (later_line stage (words_of text)))) ≡ Ok Acted →
        acts ≡ true
    at_place true second acts e = absurd (subst (λ r. IfOk r IsNoAction) e (first_says (words_of text)))
    at_place false true acts e = absurd (subst (λ r. IfOk r IsNoAction) e (second_says stage.version (words_of text)))
    at_place false false true e = refl
    at_place false false false e = absurd (subst (λ r. IfOk r IsNoAction) e (later_says stage (words_of text)))

-- ---- the lines of actions

pub IsAction-printed : (action : Action) → IsAction (printed_action action)
IsAction-printed action = record { begins = refl; one_line = clean_action action }

pub all_actions : (actions : List Action) → All IsAction (map printed_action actions)
all_actions [] = All-nil IsAction
all_actions (action ∷ actions) = All-cons IsAction (printed_action action) (map printed_action actions) (IsAction-printed action) (all_actions actions)
