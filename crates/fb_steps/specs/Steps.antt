-- A term as items, and an entry of the environment.
use Rattle.std.specs.Prelude.{ℕ, Bool, true, false, nat_lt, List, [], ◌∷◌, ◌++◌}
use Rattle.ld_terms.specs.Tree.{Tree, Star, Box, Var, App, Lam, Pi, Const, Trees, Nil, ◌▸◌, count}
use Rattle.ld_terms.specs.Entry.{Entry, Body, Defined, Primitive, Env}
use Rattle.ld_infer.specs.declared.failure.RuleName.TheVariants.{Weak, Appl, Abst}
use Rattle.ld_infer.specs.Reading.{Types, SortOf}
use Rattle.fb_steps.specs.Items.{Operand, Term, OfLine, Plain, Intro, Elim}
use Rattle.fb_steps.specs.Places.{own_instance}
use Rattle.fb_steps.specs.Work.{Work, done, flag, line, reads, ◌>>=◌, ◌>>◌}

-- the head of an application and what it is applied to
abbrev pub Spine : Type 0
Spine = Tree × List Operand

abbrev pub with_operand : Spine → Operand → Spine
with_operand s b = (s.0, s.1 ++ b ∷ [])

abbrev pub has_items : Tree → Bool
has_items Star = false
has_items Box = false
has_items (Var i) = false
has_items (App f u) = true
has_items (Lam a m) = true
has_items (Pi a b) = false
has_items (Const k us) = false

-- An abstraction or an application is read for its type and has items of its own, given here; any other term is itself.
abbrev pub operand_by : (has : Bool) → Env → Trees → Tree → ((type : Tree) → Work ℕ) → Work Operand
operand_by true env ctx u items = reads (Types env ctx 1 (Appl, 2) u) >>= λ r. items r.type >>= λ w. done (OfLine w)
operand_by false env ctx u items = done (Term u)

abbrev pub operand : Env → Trees → Tree → ((type : Tree) → Work ℕ) → Work Operand
operand env ctx u items = operand_by (has_items u) env ctx u items

-- The sort of the variable's type and the type of the body are found; then come a flag, the items of the body, given here, and a
-- line that introduces what these end with. Where 64 flags are open there is one line.
abbrev pub introduced : (fits : Bool) → Env → Trees → (a m : Tree) → (type : Tree) → ((type : Tree) → Work ℕ) → Work ℕ
introduced true env ctx a m type items =
    reads (SortOf env ctx 1 (Abst, 1) a) >>
    (reads (Types env (ctx ▸ a) 1 (Abst, 1) m) >>= λ r. flag (count ctx) a >> (items r.type >>= λ w. line (count ctx) (Intro w) type (Lam a m)))
introduced false env ctx a m type items = line (count ctx) (Plain (Lam a m)) type (Lam a m)

abbrev mutual
  -- The items of a term of the type, under the variables of the context. They end with one line, whose number is given.
  pub steps_of : Env → Trees → Tree → (type : Tree) → Work ℕ
  steps_of env ctx Star type = line (count ctx) (Plain Star) type Star
  steps_of env ctx Box type = line (count ctx) (Plain Box) type Box
  steps_of env ctx (Var i) type = line (count ctx) (Plain (Var i)) type (Var i)
  steps_of env ctx (App f u) type =
      spine_of env ctx f >>= λ s. operand env ctx u (steps_of env ctx u) >>= λ b. line (count ctx) (Elim s.0 (s.1 ++ b ∷ [])) type (App f u)
  steps_of env ctx (Lam a m) type = introduced (nat_lt (count ctx) 64) env ctx a m type (steps_of env (ctx ▸ a) m)
  steps_of env ctx (Pi a b) type = line (count ctx) (Plain (Pi a b)) type (Pi a b)
  steps_of env ctx (Const k us) type = line (count ctx) (Plain (Const k us)) type (Const k us)

  -- the items of what a term is applied to, in order
  pub spine_of : Env → Trees → Tree → Work Spine
  spine_of env ctx Star = done (Star, [])
  spine_of env ctx Box = done (Box, [])
  spine_of env ctx (Var i) = done (Var i, [])
  spine_of env ctx (App f u) = spine_of env ctx f >>= λ s. operand env ctx u (steps_of env ctx u) >>= λ b. done (with_operand s b)
  spine_of env ctx (Lam a m) = done (Lam a m, [])
  spine_of env ctx (Pi a b) = done (Pi a b, [])
  spine_of env ctx (Const k us) = done (Const k us, [])

-- the flags of an entry's parameters, each after the sort of its type
abbrev pub flags_of : Env → (params : Trees) → Work (Unit {0})
flags_of env Nil = done tt
flags_of env (ps ▸ p) = flags_of env ps >> (reads (SortOf env ps 1 (Weak, 2) p) >> flag (count ps) p)

-- the term that an entry is printed as: its body, or the instance with its own flags
abbrev pub printed_term : (k : ℕ) → (params : Trees) → Body → Tree
printed_term k params (Defined body) = body
printed_term k params Primitive = own_instance k (count params)

abbrev pub entry_steps : Env → (k : ℕ) → Entry → Work ℕ
entry_steps env k e = flags_of env e.params >> steps_of env e.params (printed_term k e.params e.body) e.type
