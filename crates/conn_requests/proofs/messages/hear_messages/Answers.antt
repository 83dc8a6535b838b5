-- One message more is taken, or none is left.
use Rattle.std.proofs.Common.{◌≡◌, ◌∙◌, ap, sym, subst, ℕ, List}
use Rattle.grpc_frame.specs.Part.{part_of}
use Rattle.grpc_frame.specs.Messages.{IsMessage}
use Rattle.grpc_frame.specs.declared.limits.TheConstants.{MESSAGE_LIMIT}
use Rattle.conn_requests.proofs.TakenLemmas.{Taking, Taking-more, Taking-all, shorter, no_message, kept_by}
use Rattle.conn_requests.proofs.messages.hear_messages.Goals as goal

pub loop-message-smaller : goal.loop-message-smaller
loop-message-smaller c =
    let takes = rw c.in-Message.is at c.in_ok-other.ensures.takes in
    shorter c.in-Message.message c.loop-message.deframer.bytes c.next.new.self.bytes takes.0

pub loop-message-preserved : goal.loop-message-preserved
loop-message-preserved c =
    let takes = rw c.in-Message.is at c.in_ok-other.ensures.takes in
    let inv = c.loop-message.invariant in (
      Taking-more _ _ c.next.new.self.bytes c.in-Message.message _ _ _ _ _ _ inv.0 takes.0 (rw inv.1 at takes.1) c.in_ok-hear_message-in-Message.ensures.kind c.in_ok-hear_message-in-Message.ensures.asks,
      c.in_ok-other.ensures.limit ∙ inv.1,
    )

pub returns-in_default : goal.returns-in_default
returns-in_default c =
    let inv = c.loop-message.invariant in
    let limit_is : c.next.new.self.limit ≡ MESSAGE_LIMIT = c.in_ok-other.ensures.limit ∙ inv.1 in
    let none = no_message c.in_ok-other.other c.in_default.not-Message in
    let kept : c.next.new.self.bytes ≡ c.loop-message.deframer.bytes = kept_by _ _ _ c.in_ok-other.other c.in_ok-other.ensures.takes none in
    let part_is : c.in_ok-other.other ≡ part_of MESSAGE_LIMIT c.next.new.self.bytes =
    c.in_ok-other.ensures.part ∙ ap (λ n. part_of n c.loop-message.deframer.bytes) inv.1 ∙ ap (part_of MESSAGE_LIMIT) (sym kept)
    in
    let taking : Taking c.args.deframer.now.bytes c.next.new.self.bytes c.args.kind.now c.loop-message.kind c.args.asks.now.items c.loop-message.asks.items =
    subst (λ (l : List ℕ). Taking c.args.deframer.now.bytes l c.args.kind.now c.loop-message.kind c.args.asks.now.items c.loop-message.asks.items) (sym kept) inv.0
    in
    record {
      limit = limit_is;
      takes = Taking-all _ _ _ _ _ _ taking (λ m. none (subst IsMessage (sym part_is) m));
      part = part_is;
    }
