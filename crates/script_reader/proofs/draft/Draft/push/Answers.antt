use Rattle.std.proofs.Common.{rules, ◌≡◌, ◌+◌, ◌-◌, ◌<◌, [], ◌∷◌, ◌++◌, arith, ap, sym, ◌∙◌, length, subst, refl}
use Rattle.std.specs.Prelude.{count_by, option_to_list, slice_get}
use Rattle.std.specs.List.{All}
use Rattle.script_reader.specs.Reader.{ascending, line_behind}
use Rattle.script_reader.specs.Sessions.{is_said_by, last_of}
use Rattle.script_reader.proofs.Lasts.{own_is, lines_of_few, length-lines_of, TellsSessions_behind, all_followed}
use Rattle.script_reader.proofs.draft.Draft.push.Goals as goal

small : (c : goal.After-items) → length c.items.result.now + 1 < 4294967296
small c =
    let lines = c.self.inside.lines.items in
    let session = c.args.session in
    let own = own_is c.self.inside.sessions.items lines session c.index_mut-own.result.now c.self.invariant c.requires.known (search rules) in
    omega (arith, ap length (c.items.ensures.exact ∙ own), lines_of_few session lines, c.requires.room, ap length c.self.view_is)

pub overflow_cast-line : goal.overflow_cast-line
overflow_cast-line c = let few = small c in omega (arith, few)

pub overflow_add-line : goal.overflow_add-line
overflow_add-line c = let few = small c in omega (arith, few)

pub followed-requires : goal.followed-requires
followed-requires c =
    let lines = c.self.inside.lines.items in
    let session = c.args.session in
    let own = own_is c.self.inside.sessions.items lines session c.index_mut-own.result.now c.self.invariant c.requires.known (search rules) in
    let last : c.copied.result ≡ slice_get c.items-2.result.now (length c.items-2.result.now - 1) = search rules in
    let last-is : c.copied.result ≡ last_of session lines = last ∙ ap (λ ps. slice_get ps (length ps - 1)) (c.items-2.ensures.exact ∙ own) in
    let above = subst (λ ls. All (λ k. k < length ls) c.args.named.lines) (sym c.self.view_is) c.requires.above in
    all_followed lines session c.len.result c.args.named.lines c.copied.result (search rules) above last-is

pub invariant_of-result : goal.invariant_of-result
invariant_of-result c =
    TellsSessions_behind c.self.inside.sessions.items c.self.inside.lines.items c.push-2.new.self.items _ c.args.session c.len-position.result c.index_mut-own.result.now c.push.new.self
    c.self.invariant c.requires.known (search rules) c.in_ok-push.ensures.ok c.in_ok-push-2.ensures.items refl (search rules)

pub returns : goal.returns
returns c =
    let lines = c.self.inside.lines.items in
    let session = c.args.session in
    let named = c.args.named.lines in
    let text = c.args.named.text in
    let own = own_is c.self.inside.sessions.items lines session c.index_mut-own.result.now c.self.invariant c.requires.known (search rules) in
    let last : c.copied.result ≡ slice_get c.items-2.result.now (length c.items-2.result.now - 1) = search rules in
    let last-is : c.copied.result ≡ last_of session lines = last ∙ ap (λ ps. slice_get ps (length ps - 1)) (c.items-2.ensures.exact ∙ own) in
    let long : c.len.result ≡ length lines = search rules in
    let place : length c.items.result.now + 1 ≡ count_by (is_said_by session) lines + 1 = ap (λ ps. length ps + 1) (c.items.ensures.exact ∙ own) ∙ ap (λ n. n + 1) (length-lines_of session lines) in
    let follows : c.in_ok-followed.field-0 ≡ ascending (named ++ option_to_list (last_of session lines)) (length lines) =
    c.in_ok-followed.ensures.ok ∙ (λ i. ascending (named ++ option_to_list (last-is i)) (long i)) in
    record {
      ok = c.in_ok-push-2.ensures.items
          ∙ (λ i. lines ++ record { session = session; place = place i; follows = follows i; text = text } ∷ [])
          ∙ ap (λ before. before ++ line_behind before session named text ∷ []) c.self.view_is;
    }
