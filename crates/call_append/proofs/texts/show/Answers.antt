-- The characters are the first of the name.
use Rattle.std.proofs.Common.{◌≡◌, ◌++◌, ℕ, List, [], ◌∷◌, take, string_bytes, sym, ap, ◌∙◌, append_assoc}
use Rattle.std.proofs.lemmas.Iterator.{YieldsList-from_chars, YieldsList-from_take}
use Rattle.std.proofs.lemmas.Iterator.Consumers.{YieldsList-end}
use Rattle.std.proofs.lemmas.List.{append-nil, map-id}
use Rattle.std.proofs.lemmas.Str.{encodes-append}
use Rattle.std.proofs.Math.Utf8.{encode, encodes}
use Rattle.call_append.specs.declared.texts.TheConstants.{SHOWN_CHARACTERS}
use Rattle.call_append.proofs.texts.show.Goals as goal

pub loop-character-preserved : goal.loop-character-preserved
loop-character-preserved c =
    let text : List ℕ = string_bytes c.args.text.now in
    let before : List ℕ = c.loop-character.yielded in
    let x : ℕ = c.in-Some.character in
    let one : encodes (before ++ x ∷ []) ≡ encodes before ++ encode x = encodes-append before (x ∷ []) ∙ ap (λ (bs : List ℕ). encodes before ++ bs) (append-nil (encode x)) in
    c.in_ok-push.ensures.bytes ∙ ap (λ (bs : List ℕ). bs ++ encode x) c.loop-character.invariant ∙ append_assoc text (encodes before) (encode x) ∙ ap (λ (bs : List ℕ). text ++ bs) (sym one)

pub returns : goal.returns
returns c =
    let all = YieldsList-from_take SHOWN_CHARACTERS (YieldsList-from_chars c.args.name.now c.utf8.name cc) cc in
    let t = YieldsList-end all c.loop-character.yielded _ c.loop-character.yielded_by _ _ c.in-None.is c.next.ensures.steps in
    c.loop-character.invariant ∙ ap (λ (cs : List ℕ). string_bytes c.args.text.now ++ encodes cs) (sym (map-id c.loop-character.yielded) ∙ t.0)
