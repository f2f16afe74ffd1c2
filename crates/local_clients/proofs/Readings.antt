-- What lines tell can happen.
use Rattle.std.proofs.Common.{◌≡◌, ℕ, ◌^◌, ◌≤◌, List, cond, decimal, sym, subst, lit<}
use Rattle.std.specs.Prelude.{codes, bytes_eq, Result, Ok, Err, IfOk}
use Rattle.std.proofs.lemmas.Bool.{cond_both}
use Rattle.hex.specs.Hex.{encode_lower}
use Rattle.net_base.specs.Limits.{IsPiece}
use Rattle.net_base.specs.Number.{number_up_to}
use Rattle.trace_text.specs.declared.line.LineRefusal.{LineRefusal}
use Rattle.trace_text.specs.declared.line.LineRefusal.TheVariants.{BadWord, BadNumber}
use Rattle.trace_text.specs.Events.{id_most, piece_of}
use Rattle.trace_text.specs.Lines.{is_action_line, IsReading}
use Rattle.trace_text.specs.Reading.{◌>>=◌, from_least, next_word, next_read, next_number, no_more}
use Rattle.trace_text.specs.Words.{Unread, words_of}
use Rattle.trace_text.proofs.Binds.{bound}
use Rattle.trace_text.proofs.HexPieces.{IsPieceOfBytes}
use Rattle.trace_text.proofs.Spelled.{IsBetween, numbers, byte_pieces, next_only}
use Rattle.local_clients.specs.declared.client_line.ClientLine.{ClientLine}
use Rattle.local_clients.specs.declared.client_line.ClientLine.TheVariants.{Happen, Skipped, End}
use Rattle.local_clients.specs.declared.event.ClientEvent.TheVariants.{Now, Joined, Bytes, Gone}
use Rattle.local_clients.specs.Lines.{now_line, bytes_line, gone_line, alone, line_named, word_line, client_line, CanBeTaken}

an_id : (unread rest : Unread) (n : ℕ) → next_number 0 id_most unread ≡ Ok (n, rest) → n ≤ 2 ^ 48
an_id unread rest n h =
    (next_only (λ word. from_least 0 (number_up_to id_most word)) BadNumber decimal (IsBetween 0 id_most) (numbers 0 id_most (lit< tt)) unread rest n h).fits.1

a_piece : (unread rest : Unread) (bytes : List ℕ) → next_read piece_of BadWord unread ≡ Ok (bytes, rest) → IsPiece bytes
a_piece unread rest bytes h = (next_only piece_of BadWord encode_lower IsPieceOfBytes byte_pieces unread rest bytes h).fits.piece

same_line : (said line : ClientLine) → ◌≡◌ {A = Result ClientLine LineRefusal} (Ok said) (Ok line) → said ≡ line
same_line said line h = cc

-- behind its last word a line says this
said_so : (unread : Unread) (said line : ClientLine) → (no_more unread >>= λ over. Ok said) ≡ Ok line → CanBeTaken said → CanBeTaken line
said_so unread said line h can =
    let over = bound (no_more unread) (λ over. Ok said) line h in
    subst (λ (l : ClientLine). CanBeTaken l) (same_line said line over.after) can

now_can : (unread : Unread) (line : ClientLine) → now_line unread ≡ Ok line → CanBeTaken line
now_can unread line h =
    let t = bound (next_number 0 id_most unread) (λ r. no_more r.1 >>= λ over. Ok (Happen (Now r.0))) line h in
    said_so t.value.1 (Happen (Now t.value.0)) line t.after (an_id unread t.value.1 t.value.0 t.before)

bytes_can : (unread : Unread) (line : ClientLine) → bytes_line unread ≡ Ok line → CanBeTaken line
bytes_can unread line h =
    let t = bound (next_number 0 id_most unread) (λ r. next_read piece_of BadWord r.1 >>= λ s. no_more s.1 >>= λ over. Ok (Happen (Bytes r.0 s.0))) line h in
    let o = bound (next_read piece_of BadWord t.value.1) (λ s. no_more s.1 >>= λ over. Ok (Happen (Bytes t.value.0 s.0))) line t.after in
    said_so o.value.1 (Happen (Bytes t.value.0 o.value.0)) line o.after (a_piece t.value.1 o.value.1 o.value.0 o.before)

gone_can : (unread : Unread) (line : ClientLine) → gone_line unread ≡ Ok line → CanBeTaken line
gone_can unread line h =
    let t = bound (next_number 0 id_most unread) (λ r. no_more r.1 >>= λ over. Ok (Happen (Gone r.0))) line h in
    said_so t.value.1 (Happen (Gone t.value.0)) line t.after tt

module _ (unread : Unread) (line : ClientLine) where
  abbrev Can : Result ClientLine LineRefusal → Type 0
  Can read = read ≡ Ok line → CanBeTaken line

  end_can : (name : List ℕ) → Can (cond (bytes_eq name (codes "end")) (alone End unread) (Err (BadWord 1)))
  end_can name = cond_both (bytes_eq name (codes "end")) (alone End unread) (Err (BadWord 1)) Can (λ _ h. said_so unread End line h tt) (λ _ h. absurd cc)

  named_can : (name : List ℕ) → Can (line_named name unread)
  named_can name =
      cond_both (bytes_eq name (codes "now")) (now_line unread) _ Can (λ _. now_can unread line) (λ _.
      cond_both (bytes_eq name (codes "joined")) (alone (Happen Joined) unread) _ Can (λ _ h. said_so unread (Happen Joined) line h tt) (λ _.
      cond_both (bytes_eq name (codes "bytes")) (bytes_line unread) _ Can (λ _. bytes_can unread line) (λ _.
      cond_both (bytes_eq name (codes "gone")) (gone_line unread) _ Can (λ _. gone_can unread line) (λ _. end_can name))))

pub word_can : (unread : Unread) (line : ClientLine) → word_line unread ≡ Ok line → CanBeTaken line
word_can unread line h =
    let t = bound (next_word unread) (λ r. line_named r.0 r.1) line h in
    named_can t.value.1 line t.value.0 t.after

-- what a line tells can happen
pub line_can : (text : List ℕ) (line : ClientLine) → client_line text ≡ Ok line → CanBeTaken line
line_can text line =
    cond_both (is_action_line text) (Ok Skipped) (word_line (words_of text)) (λ read. read ≡ Ok line → CanBeTaken line)
    (λ _ h. subst (λ (l : ClientLine). CanBeTaken l) (same_line Skipped line h) tt) (λ _. word_can (words_of text) line)

-- only what can happen is read
pub read_can : (result read : Result ClientLine LineRefusal) → IsReading result read → ((line : ClientLine) → read ≡ Ok line → CanBeTaken line) → IfOk result CanBeTaken
read_can (Ok line) read is can = can line (sym is)
read_can (Err refusal) read is can = tt
