use Rattle.clusters.specs.declared.Action.TheVariants.{Observe}
use Rattle.clusters.specs.Inside.Read.{given_of, extents_in}
use Rattle.clusters.proofs.Laws.Steps.{few-roots, drew}
use Rattle.clusters.proofs.fk.Lists.draw.Goals as goal

pub flatten-requires-clause-valid : goal.flatten-requires-clause-valid
flatten-requires-clause-valid c = (_, (c.visit_all-pass.ensures.done Observe).joint.rep)

pub flatten-requires-clause-few : goal.flatten-requires-clause-few
flatten-requires-clause-few c = few-roots (given_of c.args.input.now) (extents_in c.args.input.now) c.args.generator _ _ c.requires.fit c.visit_all-pass.ensures.done

pub returns-clause-drew : goal.returns-clause-drew
returns-clause-drew c =
    drew (given_of c.args.input.now) (extents_in c.args.input.now) c.args.generator c.visit_all-pass.new.self _ c.visit_all-pass.ensures.done c.flatten.new.self
    c.flatten.ensures.flattened
