use Rattle.own_operator.specs.Mixing.{group_sets, mixing}
use Rattle.hook_app.specs.OneLocation.{asked_named, asked_written}
use Rattle.own_operator.proofs.Groups.{mixed_effect, own_at}
use Rattle.own_operator.proofs.mixing.mix.Goals as goal

pub value-requires : goal.value-requires
value-requires c =
    let mixer = c.args.mixer in
    asked_named (mixing mixer) (group_sets mixer.groups) c.args.task.now c.args.bundle (own_at mixer.groups c.args.task.now.body.at c.requires.fit.0) c.requires

pub put-requires : goal.put-requires
put-requires c =
    let mixer = c.args.mixer in
    asked_written (mixing mixer) (group_sets mixer.groups) c.args.task.now c.args.bundle (own_at mixer.groups c.args.task.now.body.at c.requires.fit.0) c.requires

pub returns : goal.returns
returns c = λ values are is.
    mixed_effect c.args.mixer c.args.task.now c.args.bundle c.put.new.self c.in-Ok.children c.value.result c.multiplied-product.result c.new.result values
    c.requires.fit.0 are is c.value.ensures c.multiplied-product.ensures c.put.ensures c.in-Ok.ensures c.new.ensures
