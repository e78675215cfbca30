-- `fits` meets its contract: which declared value it is, by the number.
use mathlib.Core.Path.{sym, subst, ◌∙◌, ap}
use native.Mathlib.Omega.{arith}
use Rattle.rules.specs.Attributes.{fits}
use Rattle.attribute_values.specs.Parts.{DeclaredAs}
use Rattle.attribute_values.specs.Tests.{cdata_is}
use Rattle.attribute_values.specs.Groups.{declared_cdata, declared_number, declared_name, declared_tokens}
use Rattle.attribute_values.proofs.fits.Goals as goal

pub returns-in-Cdata : goal.returns-in-Cdata
returns-in-Cdata c = let a = c.args in
    λ y d. c.is_cdata.ensures ∙ cdata_is a.long a.s.now a.v.now ∙ ap (λ x. fits a.long a.s.now x a.v.now) (sym (declared_cdata a.long a.s.now d (sym c.in-Cdata.ensures.0)))

pub returns-in-Number : goal.returns-in-Number
returns-in-Number c = let a = c.args in
    λ y d. c.is_number.ensures a.s.now ∙ ap (λ x. fits a.long a.s.now x a.v.now) (sym (declared_number a.long a.s.now d (sym c.in-Number.ensures.0)))

pub returns-in-Name : goal.returns-in-Name
returns-in-Name c = let a = c.args in
    λ y d. c.is_name.ensures a.s.now ∙ ap (λ x. fits a.long a.s.now x a.v.now) (sym (declared_name a.long a.s.now d (sym c.in-Name.ensures.0)))

pub returns-in-Group : goal.returns-in-Group
returns-in-Group c = let a = c.args in
    let g = c.in-Group.ensures in
    λ y d. declared_tokens a.long a.s.now a.v.now (subst (λ n. DeclaredAs a.long a.s.now n y) (sym g.0) d) (λ z. omega (arith, g.1, z)) (λ z. omega (arith, g.1, z)) (λ z. omega (arith, g.1, z)) c.is_in_group.ensures
