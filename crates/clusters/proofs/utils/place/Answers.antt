-- `clusters::utils::place` meets its contract: each return, by the tests that led there.
use Rattle.std.proofs.Common.{lt-ltb, le-ltb}
use Rattle.clusters.proofs.Laws.Top.{placing}
use Rattle.clusters.proofs.utils.place.Goals as goal

pub returns-then-t-x : goal.returns-then-t-x
returns-then-t-x c = placing _ _ _ (simp (le-ltb _ _ c.if-t-x.true))

pub returns-then-t-x-2 : goal.returns-then-t-x-2
returns-then-t-x-2 c = placing _ _ _ (simp (lt-ltb _ _ c.if-t-x.false, le-ltb _ _ c.if-t-x-2.true))

pub returns-then-t-x-3 : goal.returns-then-t-x-3
returns-then-t-x-3 c =
    placing _ _ _
    (simp (lt-ltb _ _ c.if-t-x.false, lt-ltb _ _ c.if-t-x-2.false, le-ltb _ _ c.if-t-x-3.true))

pub returns-then-t-x-4 : goal.returns-then-t-x-4
returns-then-t-x-4 c =
    placing _ _ _
    (simp
    (lt-ltb _ _ c.if-t-x.false, lt-ltb _ _ c.if-t-x-2.false, lt-ltb _ _ c.if-t-x-3.false, le-ltb _ _ c.if-t-x-4.true))

pub returns : goal.returns
returns c =
    placing _ _ _
    (simp
    (lt-ltb _ _ c.if-t-x.false, lt-ltb _ _ c.if-t-x-2.false, lt-ltb _ _ c.if-t-x-3.false, lt-ltb _ _ c.if-t-x-4.false))
