-- `block::settle` meets its contract: the unused bytes decide, then the header.
-- Assumes nothing.
use mathlib.Core.Path.{sym, ap, ◌∙◌}
use Rattle.block.specs.Format.{content_of}
use Rattle.block.specs.Content.{bytes_of}
use Rattle.block.specs.Calls.{seen_of}
use Rattle.block.proofs.ContentLaws.{header_decides, rest_decides, zeros_left}
use Rattle.block.proofs.ZeroLaws.{unused_zero}
use Rattle.block.proofs.settle.Goals as goal

pub returns-then-not-is_zero : goal.returns-then-not-is_zero
returns-then-not-is_zero c =
    let a = c.args in
    let e = rest_decides a.kind a.last a.used a.out.now (sym (unused_zero a.used a.out.now c.requires c.min.ensures c.is_zero.ensures) ∙ c.if-not-is_zero.true) in
    record { says = sym (ap seen_of e); bytes = zeros_left (content_of a.kind a.last a.used a.out.now) a.out.now c.requires c.zero.ensures (ap bytes_of e) }

pub returns-in-Shut : goal.returns-in-Shut
returns-in-Shut c =
    let a = c.args in
    let j = header_decides a.kind a.last a.used a.out.now c.requires (sym (unused_zero a.used a.out.now c.requires c.min.ensures c.is_zero.ensures) ∙ c.if-not-is_zero.false) in
    let s = c.said-seen.ensures in
    record { says = s ∙ sym j.says; bytes = zeros_left (content_of a.kind a.last a.used a.out.now) a.out.now c.requires c.zero-in-Shut.ensures (j.shuts (sym s ∙ c.in-Shut.is)) }

pub returns-in_default : goal.returns-in_default
returns-in_default c =
    let a = c.args in
    let j = header_decides a.kind a.last a.used a.out.now c.requires (sym (unused_zero a.used a.out.now c.requires c.min.ensures c.is_zero.ensures) ∙ c.if-not-is_zero.false) in
    let s = c.said-seen.ensures in
    record { says = s ∙ sym j.says; bytes = sym (j.keeps (λ e. c.in_default.not-Shut (s ∙ e))) }
