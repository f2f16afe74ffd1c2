-- Calls on a source or a sink, one after another.
use Rattle.std.proofs.Common.{◌≡◌, List, ◌++◌, [], ℕ, Option, Some, None, refl, sym, ◌∙◌, ap, subst, length, ◌<◌, arith}
use Rattle.std.proofs.lemmas.List.{append_assoc, append-nil, length-append}
use Rattle.io_edge.specs.Told.{Gives, Takes, TakesProperPrefix, TakesFront}

-- a call that gives nothing
pub Gives-nothing : (known : Option (List ℕ)) → Gives known known []
Gives-nothing None = refl
Gives-nothing (Some left) = refl

-- two calls give what both of them give
pub Gives-append : (first second third : Option (List ℕ)) (xs ys : List ℕ) → Gives first second xs → Gives second third ys → Gives first third (xs ++ ys)
Gives-append first second None xs ys a b = rw (a, b) refl
Gives-append first second (Some left) xs ys a b = rw (a, b, append_assoc) refl

-- what is left where it was told before
pub Gives-told : (before after : Option (List ℕ)) (all bytes : List ℕ) → Gives before after bytes → before ≡ Some all → (rest : List ℕ) × (after ≡ Some rest) × (all ≡ bytes ++ rest)
Gives-told before None all bytes gives told = cc
Gives-told before (Some rest) all bytes gives told = (rest, refl, cc)

pub Takes-nothing : (known : Option (List ℕ)) → Takes known known []
Takes-nothing None = refl
Takes-nothing (Some taken) = ap Some (sym (append-nil taken))

-- two calls take what both of them take
pub Takes-append : (first second third : Option (List ℕ)) (xs ys : List ℕ) → Takes first second xs → Takes second third ys → Takes first third (xs ++ ys)
Takes-append None second third xs ys a b = rw (b, a) refl
Takes-append (Some taken) second third xs ys a b = rw (b, a, append_assoc) refl

pub Takes-told : (before after : Option (List ℕ)) (had bytes : List ℕ) → Takes before after bytes → before ≡ Some had → after ≡ Some (had ++ bytes)
Takes-told None after had bytes takes told = cc
Takes-told (Some taken) after had bytes takes told = cc

-- a piece after whole ones is cut short
pub TakesProperPrefix-after : (first second third : Option (List ℕ)) (xs ys : List ℕ) → Takes first second xs → TakesProperPrefix second third ys → TakesProperPrefix first third (xs ++ ys)
TakesProperPrefix-after first second third xs ys whole part = record {
  front = xs ++ part.front;
  rest = part.rest;
  split = ap (λ (zs : List ℕ). xs ++ zs) part.split ∙ sym (append_assoc xs part.front part.rest);
  proper = part.proper;
  taken = Takes-append first second third xs part.front whole part.taken;
}

-- a proper prefix of a text is one of the text with more behind it
pub TakesProperPrefix-more : (before after : Option (List ℕ)) (xs ys : List ℕ) → TakesProperPrefix before after xs → TakesProperPrefix before after (xs ++ ys)
TakesProperPrefix-more before after xs ys part = record {
  front = part.front;
  rest = part.rest ++ ys;
  split = ap (λ (zs : List ℕ). zs ++ ys) part.split ∙ append_assoc part.front part.rest ys;
  proper = omega (arith, part.proper, length-append part.rest ys);
  taken = part.taken;
}

-- nothing was put yet
pub TakesFront-none : (known : Option (List ℕ)) (pending : List ℕ) → TakesFront known known pending pending
TakesFront-none known pending = record { front = []; split = refl; taken = Takes-nothing known }

-- some bytes more were put
pub TakesFront-more : (first second third : Option (List ℕ)) (pending rest left bytes : List ℕ) → TakesFront first second pending rest → Takes second third bytes →
    rest ≡ bytes ++ left → TakesFront first third pending left
TakesFront-more first second third pending rest left bytes put takes is = record {
  front = put.front ++ bytes;
  split = put.split ∙ ap (λ (xs : List ℕ). put.front ++ xs) is ∙ sym (append_assoc put.front bytes left);
  taken = Takes-append first second third put.front bytes put.taken takes;
}

-- all of it was put
pub TakesFront-whole : (before after : Option (List ℕ)) (pending rest : List ℕ) → TakesFront before after pending rest → rest ≡ [] → Takes before after pending
TakesFront-whole before after pending rest put none =
    let all : put.front ≡ pending = sym (put.split ∙ ap (λ (xs : List ℕ). put.front ++ xs) none ∙ append-nil put.front) in
    subst (λ (bytes : List ℕ). Takes before after bytes) all put.taken

-- something is left of it
pub TakesFront-part : (before after : Option (List ℕ)) (pending rest : List ℕ) → TakesFront before after pending rest → 0 < length rest → TakesProperPrefix before after pending
TakesFront-part before after pending rest put some = record { front = put.front; rest = rest; split = put.split; proper = some; taken = put.taken }
