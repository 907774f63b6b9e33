mod PresentRoles
