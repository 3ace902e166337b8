-- `clusters::winding::Winding::find` meets its contract: at a root the way is 0, else it is the parent's and one link.
use Rattle.std.proofs.Common.{◌∙◌, ◌+◌, ◌*◌, SFits, get_or, pos, rules, w64}
use Rattle.std.proofs.lemmas.Int.{to_z-of_z}
use Rattle.clusters.proofs.Laws.Sway.{at-root, rank_falls, parent_in, sum_fits, one_link}
use Rattle.clusters.proofs.winding.Winding.+find.Goals as goal

pub returns-then-up-site : goal.returns-then-up-site
returns-then-up-site t c k h = at-root k h _ c.requires.site_in_bounds c.if-up-site.true

pub find-requires : goal.find-requires
find-requires t c =
    let k = c.requires.held.0 in
    let h = c.requires.held.1 in
    let n = c.if-up-site.false in (
      rank_falls k h _ c.requires.site_in_bounds n t c.decreases,
      (parent_in k h _ c.requires.site_in_bounds n, c.requires.held),
    )

pub moved-requires : goal.moved-requires
moved-requires t c =
    let k = c.requires.held.0 in
    let h = c.requires.held.1 in
    let fx : SFits w64 (get_or c.args.self.now.offsets.now (2 * c.args.site) (pos 0)) = search rules in
    let fy : SFits w64 (get_or c.args.self.now.offsets.now (2 * c.args.site + 1) (pos 0)) = search rules in
    sum_fits k h _ c.requires.site_in_bounds c.if-up-site.false _ _ _ (to_z-of_z w64 _ fx) (to_z-of_z w64 _ fy) (c.find.ensures k h)

pub returns : goal.returns
returns t c k h =
    let fx : SFits w64 (get_or c.args.self.now.offsets.now (2 * c.args.site) (pos 0)) = search rules in
    let fy : SFits w64 (get_or c.args.self.now.offsets.now (2 * c.args.site + 1) (pos 0)) = search rules in
    c.moved.ensures
    ∙ one_link k h _ c.requires.site_in_bounds c.if-up-site.false _ _ _ (to_z-of_z w64 _ fx) (to_z-of_z w64 _ fy) (c.find.ensures k h)
