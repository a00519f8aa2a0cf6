use denote.Param.{param}
use denote.Param.Members.{Shared}
use denote.Param.Send.{IsSend, sendable}
use denote.Ref.{MutBor, NamedLft}
use Rattle.std.proofs.Common.{rules, subst}
use Rattle.std.proofs.Crossing.{crosses}
use Rattle.text_outlet.specs.Sending.{TellsOn}
use Rattle.worker_gate.specs.contracts.post.Post as post
use Rattle.free_pool.specs.Beside.{GivesTwo}
use Rattle.free_pool.proofs.team.work_all.Goals as goal

-- what is so of the call is so of what it was given and what it left
of_call : {F S T : Type 0} {g : Shared F (MutBor S × (MutBor T × Unit {0})) (Unit {0} × (MutBor S × (MutBor T × Unit {0})))} {f : F} {x : S} {y : T} {x' : S} {y' : T}
    (given : GivesTwo g f x y x' y') (R : S → T → S → T → Type 0) → R given.first.now given.second.now given.first_after.now given.second_after.now → R x y x' y'
of_call {x = x} {y = y} {x' = x'} {y' = y'} given R call =
    subst (λ s. R s y x' y') given.first_is
    (subst (λ t. R given.first.now t x' y') given.second_is
    (subst (λ s. R given.first.now given.second.now s y') given.first_left
    (subst (λ t. R given.first.now given.second.now given.first_after.now t) given.second_left call)))

pub beside-requires-send-J : goal.beside-requires-send-J
beside-requires-send-J g c κs within =
    let posts : (h a : NamedLft) → IsSend (post.the_row h a (param 1 g.row.A) (param 4 g.row.A-Val) (param 5 g.row.A-Horizon) g.A.App g.A.Val.Held) =
    λ h a. record { owned = (c.post_sends.ensures h a).owned; leaving = (c.post_sends.ensures h a).leaving } in
    search (sendable, crosses, posts) depth 40

pub returns-clause-tells : goal.returns-clause-tells
returns-clause-tells g c =
    let given = c.beside.ensures.own in
    let call : TellsOn g.K.Sink.contents g.K.Sink.faults given.first.now.outlet given.second.now given.first_after.now.outlet given.second_after.now = search rules in
    of_call given (λ lead out next next_out. TellsOn g.K.Sink.contents g.K.Sink.faults lead.outlet out next.outlet next_out) call
