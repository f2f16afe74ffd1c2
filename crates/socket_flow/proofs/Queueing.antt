-- Who stands in line once somebody was put into it.
use Rattle.std.proofs.Common.{◌≡◌, inl, inr, ℕ, List, Option, Some, None, refl, sym, subst, Result, Ok, Err, OnOk, ap, ◌∙◌}
use Rattle.socket_flow.specs.Rounds.{MayQueue, MayQueueAt}
use Rattle.socket_flow.specs.Turns.{queued}

-- somebody is put into a line that is as it was
pub queued_where : {T E : Type 0} (r : Result T E) (old mid new : List ℕ) (key : ℕ) → mid ≡ old → OnOk r (new ≡ queued mid key) → OnOk r (MayQueue old new key)
queued_where (Ok x) old mid new key same is = inr (is ∙ ap (λ line. queued line key) same)
queued_where (Err e) old mid new key same is = tt

-- a line is as it was once somebody was put into it
same_then : (old mid new : List ℕ) (key : ℕ) → MayQueue old mid key → new ≡ mid → MayQueue old new key
same_then old mid new key (inl is) same = inl (same ∙ is)
same_then old mid new key (inr is) same = inr (same ∙ is)

pub queued_before : {T E : Type 0} (r : Result T E) (old mid new : List ℕ) (key : ℕ) → MayQueue old mid key → new ≡ mid → OnOk r (MayQueue old new key)
queued_before (Ok x) old mid new key was same = same_then old mid new key was same
queued_before (Err e) old mid new key was same = tt

pub same_at : (who : Option ℕ) (line : List ℕ) → MayQueueAt line line who
same_at None line = refl
same_at (Some key) line = inl refl

pub queued_at : {T E : Type 0} (r : Result T E) (who : Option ℕ) (old new : List ℕ) (key : ℕ) → who ≡ Some key → OnOk r (new ≡ queued old key) → OnOk r (MayQueueAt old new who)
queued_at r who old new key is ok = subst (λ x. OnOk r (MayQueueAt old new x)) (sym is) (queued_where r old old new key refl ok)
