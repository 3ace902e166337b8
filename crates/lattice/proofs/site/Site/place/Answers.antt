-- `Site::place` meets its contract, by the laws of a good shape.
use Rattle.std.proofs.Common.{ℕ, ◌*◌, ◌%◌, ◌∙◌, ap₂}
use Rattle.lattice.proofs.Laws.Shape.{placed, rest_at, extent-of, stride-of}
use Rattle.lattice.proofs.site.Site.place.Goals as goal

pub invariant_of-result : goal.invariant_of-result
invariant_of-result c = let l = c.args.self.now.lattice.now in record { on_axis = placed _ l.good _ _ c.requires.index_lt_sites c.requires.axis_lt_4 c.args.self.now.here }

pub returns-clause-extent_is : goal.returns-clause-extent_is
returns-clause-extent_is c = extent-of _ c.args.self.now.lattice.now.good _ c.requires.axis_lt_4

pub returns-clause-stride_is : goal.returns-clause-stride_is
returns-clause-stride_is c = stride-of _ c.args.self.now.lattice.now.good _ c.requires.axis_lt_4

pub returns-clause-rest_is : goal.returns-clause-rest_is
returns-clause-rest_is c =
    let l = c.args.self.now.lattice.now in
    let i = c.args.self.now.index in
    let d = c.args.axis in
    let k = c.requires.axis_lt_4 in
    rest_at _ l.good i d k c.args.self.now.here ∙ ap₂ (λ (a b : ℕ). i % (a * b)) (extent-of _ l.good d k) (stride-of _ l.good d k)
