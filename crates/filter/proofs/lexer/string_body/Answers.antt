use Rattle.std.proofs.Common.{◌≡◌, ◌+◌, ◌<◌, ℕ, false, length, get_or, subst, sym, ◌∙◌, arith}
use Rattle.filter.specs.Reading.{is_plain}
use Rattle.filter.proofs.Strings.{HasRead, read_nothing, read_plain, read_end, read_quote, read_cut, read_bad_escape, read_escape}
use Rattle.filter.proofs.lexer.string_body.Goals as goal

pub parts-init : goal.parts-init
parts-init c = subst (HasRead c.args.quote c.args.bytes.now 0) (sym c.new-text.ensures.items) (read_nothing c.args.quote c.args.bytes.now c.requires.utf8)

pub returns-then-at-bytes-clause-found : goal.returns-then-at-bytes-clause-found
returns-then-at-bytes-clause-found c =
    let p = read_plain c.args.quote c.args.bytes.now c.requires.quote c.requires.utf8 c.parts.at c.plain_len-plain.result c.parts.text.items c.extend_from_slice.new.self.items
    c.parts.invariant c.plain_len-plain.ensures.value c.plain_len-plain.ensures.within c.in_ok-extend_from_slice.ensures.items in
    read_end c.args.quote c.args.bytes.now c.requires.quote c.requires.utf8 _ _ p.0 c.if-at-bytes.true

pub returns-then-bytes-at-clause-found : goal.returns-then-bytes-at-clause-found
returns-then-bytes-at-clause-found c =
    let p = read_plain c.args.quote c.args.bytes.now c.requires.quote c.requires.utf8 c.parts.at c.plain_len-plain.result c.parts.text.items c.extend_from_slice.new.self.items
    c.parts.invariant c.plain_len-plain.ensures.value c.plain_len-plain.ensures.within c.in_ok-extend_from_slice.ensures.items in
    let within = p.0.within in
    let lt : c.parts.at + c.plain_len-plain.result < length c.args.bytes.now = omega arith in
    read_quote c.args.quote c.args.bytes.now c.requires.quote c.requires.utf8 _ _ p.0 lt c.if-bytes-at.true

pub returns-then-bytes-at-clause-utf8 : goal.returns-then-bytes-at-clause-utf8
returns-then-bytes-at-clause-utf8 c =
    let p = read_plain c.args.quote c.args.bytes.now c.requires.quote c.requires.utf8 c.parts.at c.plain_len-plain.result c.parts.text.items c.extend_from_slice.new.self.items
    c.parts.invariant c.plain_len-plain.ensures.value c.plain_len-plain.ensures.within c.in_ok-extend_from_slice.ensures.items in
    p.0.utf8

pub returns-then-at-bytes-2-clause-found : goal.returns-then-at-bytes-2-clause-found
returns-then-at-bytes-2-clause-found c =
    let p = read_plain c.args.quote c.args.bytes.now c.requires.quote c.requires.utf8 c.parts.at c.plain_len-plain.result c.parts.text.items c.extend_from_slice.new.self.items
    c.parts.invariant c.plain_len-plain.ensures.value c.plain_len-plain.ensures.within c.in_ok-extend_from_slice.ensures.items in
    let within = p.0.within in
    let lt : c.parts.at + c.plain_len-plain.result < length c.args.bytes.now = omega arith in
    read_cut c.args.quote c.args.bytes.now c.requires.quote c.requires.utf8 _ _ p.0 lt c.if-bytes-at.false (p.1 lt) c.if-at-bytes-2.true

pub returns-in_default-clause-found : goal.returns-in_default-clause-found
returns-in_default-clause-found c =
    let p = read_plain c.args.quote c.args.bytes.now c.requires.quote c.requires.utf8 c.parts.at c.plain_len-plain.result c.parts.text.items c.extend_from_slice.new.self.items
    c.parts.invariant c.plain_len-plain.ensures.value c.plain_len-plain.ensures.within c.in_ok-extend_from_slice.ensures.items in
    let within = p.0.within in
    let lt : c.parts.at + c.plain_len-plain.result < length c.args.bytes.now = omega arith in
    let more : (c.parts.at + c.plain_len-plain.result) + 1 < length c.args.bytes.now = omega arith in
    read_bad_escape c.args.quote c.args.bytes.now c.requires.quote c.requires.utf8 _ _ p.0 more c.if-bytes-at.false (p.1 lt) (sym c.escaped.ensures ∙ c.in_default.is)

pub parts-preserved : goal.parts-preserved
parts-preserved c =
    let p = read_plain c.args.quote c.args.bytes.now c.requires.quote c.requires.utf8 c.parts.at c.plain_len-plain.result c.parts.text.items c.extend_from_slice.new.self.items
    c.parts.invariant c.plain_len-plain.ensures.value c.plain_len-plain.ensures.within c.in_ok-extend_from_slice.ensures.items in
    let within = p.0.within in
    let lt : c.parts.at + c.plain_len-plain.result < length c.args.bytes.now = omega arith in
    let more : (c.parts.at + c.plain_len-plain.result) + 1 < length c.args.bytes.now = omega arith in
    read_escape c.args.quote c.args.bytes.now c.requires.quote c.requires.utf8 _ c.in-Some.byte _ _ p.0 more c.if-bytes-at.false (p.1 lt)
    (sym c.escaped.ensures ∙ c.in-Some.is) c.in_ok-push.ensures.items

pub returns-then-bytes-at-clause-within : goal.returns-then-bytes-at-clause-within
returns-then-bytes-at-clause-within c =
    let p = read_plain c.args.quote c.args.bytes.now c.requires.quote c.requires.utf8 c.parts.at c.plain_len-plain.result c.parts.text.items c.extend_from_slice.new.self.items
    c.parts.invariant c.plain_len-plain.ensures.value c.plain_len-plain.ensures.within c.in_ok-extend_from_slice.ensures.items in
    let within = p.0.within in
    omega arith
