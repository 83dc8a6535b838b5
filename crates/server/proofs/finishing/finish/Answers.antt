-- The hands are joined, and as many links are handed back as jobs were taken.
use Rattle.std.proofs.Common.{◌≡◌, false, Some, length, flat_map, ap, sym, ◌∙◌, arith, length-append}
use Rattle.std.proofs.lemmas.List.Elements.{All-pop}
use Rattle.links.specs.Told.{more}
use Rattle.links.proofs.ToldLemmas.{more-more}
use Rattle.job_queue.specs.Hands.{known}
use Rattle.server.proofs.FinishLemmas.{same_flat, worked_length, some_parts, whole_parts, whole_puts, whole_links, whole_settles}
use Rattle.server.proofs.finishing.finish.Goals as goal

pub join-requires-clause-parts : goal.join-requires-clause-parts
join-requires-clause-parts g c =
    some_parts (λ worker. known worker.hand) c.pop.new.self.items (known c.args.hand.now) (known c.gather.new.hand) c.in_ok-passes.ensures.known (All-pop (λ worker. (known worker.hand).parts ≡ 1) c.args.crew.items c.pop.new.self.items (Some c.in-Some.first) c.in-Some.ensures.items c.requires.parts).0 c.requires.hand.2

pub join-requires-clause-taker : goal.join-requires-clause-taker
join-requires-clause-taker g c = c.work-passes.ensures.puts ∙ (All-pop (λ worker. (known worker.hand).puts ≡ false) c.args.crew.items c.pop.new.self.items (Some c.in-Some.first) c.in-Some.ensures.items c.requires.takers).1

pub left-left-requires-clause-parts : goal.left-left-requires-clause-parts
left-left-requires-clause-parts g c =
    let is = All-pop (λ worker. (known worker.hand).parts ≡ 1) c.args.crew.items c.pop.new.self.items (Some c.in-Some.first) c.in-Some.ensures.items c.requires.parts in
    let count = c.args.crew.ok.0 ∙ ap length c.in-Some.ensures.items ∙ length-append c.pop.new.self.items _ in
    whole_parts (λ worker. known worker.hand) c.pop.new.self.items (known c.args.hand.now) (known c.gather.new.hand) (known c.work-passes.result.hand) (known c.join.new.hand) c.in_ok-passes.ensures.known c.join.ensures.known _ _ is.0 (c.work-passes.ensures.parts ∙ is.1) count (sym c.requires.hand.1)

pub left-left-requires-clause-puts : goal.left-left-requires-clause-puts
left-left-requires-clause-puts g c = whole_puts (λ worker. known worker.hand) c.pop.new.self.items (known c.args.hand.now) (known c.gather.new.hand) (known c.work-passes.result.hand) (known c.join.new.hand) c.in_ok-passes.ensures.known c.join.ensures.known c.requires.puts.0

pub hand_back-requires : goal.hand_back-requires
hand_back-requires g c =
    let is = All-pop (λ worker. length worker.links.items ≡ length (known worker.hand).taken) c.args.crew.items c.pop.new.self.items (Some c.in-Some.first) c.in-Some.ensures.items c.requires.links in
    let mine = worked_length _ _ _ _ _ _ _ _ _ _ _ c.work-passes.ensures.works is.1 in
    let all = whole_links (λ worker. known worker.hand) c.pop.new.self.items (known c.args.hand.now) (known c.gather.new.hand) (known c.work-passes.result.hand) (known c.left-left.new.hand) c.in_ok-passes.ensures.known (c.left-left.ensures.same ∙ c.join.ensures.known)
    (λ worker. worker.links.items) c.work-passes.result.links.items _ c.requires.puts.1 mine is.0 c.left-left.ensures.settles in
    omega (arith, all, c.requires.out)

pub hand_back_all-requires : goal.hand_back_all-requires
hand_back_all-requires g c =
    let is = All-pop (λ worker. length worker.links.items ≡ length (known worker.hand).taken) c.args.crew.items c.pop.new.self.items (Some c.in-Some.first) c.in-Some.ensures.items c.requires.links in
    let mine = worked_length _ _ _ _ _ _ _ _ _ _ _ c.work-passes.ensures.works is.1 in
    let all = whole_links (λ worker. known worker.hand) c.pop.new.self.items (known c.args.hand.now) (known c.gather.new.hand) (known c.work-passes.result.hand) (known c.left-left.new.hand) c.in_ok-passes.ensures.known (c.left-left.ensures.same ∙ c.join.ensures.known)
    (λ worker. worker.links.items) c.work-passes.result.links.items _ c.requires.puts.1 mine is.0 c.left-left.ensures.settles in
    let flat = ap length (same_flat (λ links. links.items) (λ worker. worker.links.items) c.in_ok-passes.lists.items c.pop.new.self.items c.in_ok-passes.ensures.links) in
    omega (arith, all, flat, c.requires.out, c.hand_back.ensures.out)

pub returns-clause-finished : goal.returns-clause-finished
returns-clause-finished g c =
    let flat = same_flat (λ links. links.items) (λ worker. worker.links.items) c.in_ok-passes.lists.items c.pop.new.self.items c.in_ok-passes.ensures.links in
    let back = c.hand_back.ensures in
    let rest = c.hand_back_all.ensures in
    let mine = c.work-passes.result.links.items in
    let others = flat_map (λ worker. worker.links.items) c.pop.new.self.items in
    let count = length-append mine others in
    record {
      others = c.pop.new.self.items;
      first = c.in-Some.first;
      is = c.in-Some.ensures.items;
      joined = c.in_ok-passes.passes;
      gathered = c.in_ok-passes.ensures.passes;
      links = mine;
      last = known c.work-passes.result.hand;
      worked = c.work-passes.ensures.works;
      alone = c.work-passes.ensures.alone;
      settles = whole_settles (λ worker. known worker.hand) c.pop.new.self.items (known c.args.hand.now) (known c.gather.new.hand) (known c.work-passes.result.hand) (known c.left-left.new.hand) c.in_ok-passes.ensures.known (c.left-left.ensures.same ∙ c.join.ensures.known) _ (omega (arith, c.if-left-gt0.false)) c.left-left.ensures.settles;
      left = rest.left ∙ back.left;
      handed = rest.handed ∙ ap (more _) flat ∙ ap (λ told. more told others) back.handed ∙ more-more _ mine others;
      out = omega (arith, count, ap length flat, back.out, rest.out);
    }
