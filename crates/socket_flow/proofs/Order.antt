-- What goes out keeps its order.
use Rattle.std.proofs.Common.{◌≡◌, ℕ, min, List, [], ◌∷◌, ◌++◌, length, refl, ap, sym, ◌∙◌, append_assoc}
use Rattle.std.proofs.lemmas.List.{append-nil, take-append-drop}
use Rattle.socket_flow.specs.Writing.{Writing, Put, Went, after_writing, went_by, put_by, written, put, left, KeepsOrder}

-- one step
step : (out : List ℕ) (writing : Writing) → went_by out writing ++ after_writing out writing ≡ out ++ put_by writing
step out (Put bytes) = refl
step out (Went count) = take-append-drop (min count (length out)) out ∙ sym (append-nil out)

pub keeps_order : KeepsOrder
keeps_order [] out = sym (append-nil out)
keeps_order (writing ∷ rest) out =
    append_assoc (went_by out writing) (written rest (after_writing out writing)) (left rest (after_writing out writing))
    ∙ (ap (λ more. went_by out writing ++ more) (keeps_order rest (after_writing out writing))
    ∙ (sym (append_assoc (went_by out writing) (after_writing out writing) (put rest))
    ∙ (ap (λ front. front ++ put rest) (step out writing)
    ∙ append_assoc out (put_by writing) (put rest))))
