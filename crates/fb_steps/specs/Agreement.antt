-- A place is what a book has come to, without names: the entries, the context of the open flags, and the flags' numbers and marks of a
-- scope.
use Rattle.std.specs.Prelude.{◌≡◌, ◌-◌, ℕ, List, [], ◌∷◌, ◌++◌, map}
use Rattle.ld_terms.specs.Tree.{Tree, Trees, ◌▸◌, count}
use Rattle.ld_terms.specs.Entry.{Env, Defined}
use Rattle.ld_infer.specs.Standing.{without}
use Rattle.fb_scope.specs.State.{State, entered, left_to, noted}
use Rattle.fb_steps.specs.Places.{Place, context_of, closed, with_flag, with_line}

pub record Agrees (p : Place) (env : Env) (ctx : Trees) (s : State) : Type 0 where
  pub env_is : p.env ≡ env
  pub context_is : context_of p.flags ≡ ctx
  pub numbers_are : map (λ f. f.number) p.flags ≡ map (λ f. f.number) s.flags
  pub opened_is : p.opened ≡ s.opened
  pub marks_are : p.marks ≡ s.marks

-- They agree again where flags are closed, where a flag is opened, and where a line is added.
pub record PlacesAgree : Type 0 where
  pub where_closed : (p : Place) (env : Env) (ctx : Trees) (s : State) (depth : ℕ) → Agrees p env ctx s → Agrees (closed depth p) env (without (count ctx - depth) ctx) (left_to depth s)
  pub with_flag : (p : Place) (env : Env) (ctx : Trees) (s : State) (name : List ℕ) (type : Tree) → Agrees p env ctx s → Agrees (with_flag type p) env (ctx ▸ type) (entered name s)
  pub with_line : (p : Place) (env : Env) (ctx : Trees) (s : State) (name : List ℕ) (body type : Tree) → Agrees p env ctx s →
      Agrees (with_line name body type p) (env ++ record { name = name; params = ctx; body = Defined body; type = type } ∷ []) ctx (noted s)
